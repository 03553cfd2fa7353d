-- One restriction more lowers the speeds in the zone, where it has a cell there; one step more that is covered takes
-- its speed, and the steps outside the zone had what is left already.
use Rattle.std.proofs.Common.{◌≡◌, ◌+◌, ◌<◌, ℤ, pos, [], ◌∷◌, length, get_or, slice_index, take, take_all, refl, sym}
use Rattle.std.proofs.Common.{ap, ◌∙◌, add-one, arith}
use Rattle.std.proofs.lemmas.List.{take_more, map-append}
use Rattle.sdm_rules.specs.Profile.{capped, zone_of}
use Rattle.sdm_speed.specs.ZoneEnds.{retaken, speed_under}
use Rattle.sdm_speed.proofs.CapLaws.{prefix_stays, rest_stays, one_more, not_yet}
use Rattle.sdm_speed.proofs.HeldLaws.{none}
use Rattle.sdm_speed.proofs.StepLaws.{none as no_step}
use Rattle.sdm_speed.proofs.WithinLaws.{off_stays, on_changes, taken_within, within}
use Rattle.sdm_speed.proofs.ZoneLaws.{lowest_limit-push, not_capped}
use Rattle.sdm_speed.proofs.lifts.retake.Goals as goal
use Rattle.sdm_speed.proofs.lifts.retake.Goals.{then-meet, else-meet}

pub loop-r-preserved : goal.loop-r-preserved
loop-r-preserved c =
    let held = c.args.held.now in
    let zone = zone_of (pos c.args.length_cm) in
    let left = speed_under (pos c.args.length_cm) c.args.statics.now.before c.args.statics.now.list.items in
    let i = c.loop-r.r-index in
    let r = get_or held i none in
    let one : (x : ℤ) → left (take (i + 1) held) x ≡ capped x (zone r) (left (take i held) x) =
    λ x. rw (take_more held i none c.loop-r-test.true, map-append zone (take i held) (r ∷ []))
    (lowest_limit-push _ x _ (zone r)) in
    λ k d from to.
    let start = (get_or c.args.steps.now.list.items k d).start in
    let on = rw c.zone_of.ensures at c.covered-covered.ensures.within k d from to in
    elim c.if-meet.branch [
      | then-meet w ↦ rw w.speeds-is (w.lower_within.ensures.speeds (left (take i held)) c.loop-r.invariant k d from to
          ∙ sym (one start))
      | else-meet w ↦ rw w.speeds-is (c.loop-r.invariant k d from to
          ∙ sym (not_capped start (zone r) (left (take i held) start) (c.meet.ensures.apart w.if-meet.false start on))
          ∙ sym (one start))
    ]

pub loop-i-init : goal.loop-i-init
loop-i-init c =
    let zone = zone_of (pos c.args.length_cm) c.args.lifted in
    let left = speed_under (pos c.args.length_cm) c.args.statics.now.before c.args.statics.now.list.items
    c.args.held.now in
    let steps = c.args.steps.now.list.items in
    record {
      before = refl;
      list = sym (prefix_stays (within zone (retaken left)) steps c.covered-covered.result.from
          (λ k d l m. off_stays zone (retaken left) (get_or steps k d)
          (rw c.zone_of.ensures at c.covered-covered.ensures.before k d l m)));
      len = refl;
      room = refl;
    }

pub loop-i-preserved : goal.loop-i-preserved
loop-i-preserved c =
    let zone = zone_of (pos c.args.length_cm) c.args.lifted in
    let left = speed_under (pos c.args.length_cm) c.args.statics.now.before c.args.statics.now.list.items
    c.args.held.now in
    let change = within zone (retaken left) in
    let steps = c.args.steps.now.list.items in
    let i = c.loop-i.i in
    let inv = c.loop-i.invariant in
    let covered = c.covered-covered.ensures in
    let known : i < length steps = omega (arith, covered.bound, c.loop-i-test.true) in
    let step = get_or steps i no_step in
    let read : get_or c.loop-i.steps.list.items i no_step ≡ step =
    rw inv.list (not_yet change steps i no_step known) in
    let speed_is : slice_index c.loop-r.speeds i ≡ left step.start =
    (rw (take_all c.loop-r.r-index c.args.held.now c.loop-r-test.false) at c.loop-r.invariant) i no_step
    c.loop-i.auto.i c.loop-i-test.true in
    let on = rw c.zone_of.ensures at covered.within i no_step c.loop-i.auto.i c.loop-i-test.true in
    let changed : record { start = step.start; speed = slice_index c.loop-r.speeds i } ≡ change step =
    ap (λ v. record { start = step.start; speed = v }) speed_is ∙ sym (on_changes zone (retaken left) step on) in
    record {
      before = c.set_speed.ensures.before ∙ inv.before;
      list = rw (c.set_speed.ensures.list no_step, read, changed, inv.list, add-one)
          (one_more change steps i no_step known);
      len = c.set_speed.ensures.len ∙ inv.len;
      room = c.set_speed.ensures.room ∙ inv.room;
    }

pub returns-clause-list : goal.returns-clause-list
returns-clause-list c =
    let zone = zone_of (pos c.args.length_cm) c.args.lifted in
    let left = speed_under (pos c.args.length_cm) c.args.statics.now.before c.args.statics.now.list.items
    c.args.held.now in
    let steps = c.args.steps.now.list.items in
    c.loop-i.invariant.list
    ∙ rest_stays (within zone (retaken left)) steps c.loop-i.i
    (λ k d l m. off_stays zone (retaken left) (get_or steps k d)
    (rw c.zone_of.ensures at c.covered-covered.ensures.past k d (omega (arith, c.loop-i-test.false)) m))
    ∙ taken_within zone left c.args.steps.now.before steps c.args.steps.now.rises c.requires.speeds
