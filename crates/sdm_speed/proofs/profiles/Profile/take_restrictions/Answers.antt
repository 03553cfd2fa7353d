-- Each is new among those before it, has room, and fits.
use Rattle.std.proofs.Common.{◌≡◌, ℕ, ℤ, pos, None, ◌<◌, ◌≤◌, ◌≤ℤ◌, ◌+◌, length, take, get_or, sym, ap, subst, ◌∙◌, arith}
use Rattle.std.specs.FinMap as finite
use Rattle.std.proofs.Common.{length-take-le}
use Rattle.std.proofs.lemmas.List.{get_or_default, take_all}
use Rattle.sdm_rules.specs.declared.restrictions.Restriction.{Restriction}
use Rattle.sdm_rules.specs.Records.{most_restrictions, restrict_fault}
use Rattle.sdm_rules.specs.TakeOver.{first_beyond}
use Rattle.sdm_speed.specs.Held.{by_identity}
use Rattle.sdm_speed.specs.Profiles.{ProfileData}
use Rattle.sdm_speed.specs.ProfileFields.{IsKeptProfile}
use Rattle.sdm_speed.specs.declared.profiles.Profile.TheInside.{Inside}
use Rattle.sdm_speed.proofs.BeyondLaws.{all_fit, beyond_by_identity}
use Rattle.sdm_speed.proofs.HeldLaws.{len_is, none}
use Rattle.sdm_speed.proofs.RestrictLaws.{not_refused}
use Rattle.sdm_speed.proofs.TakenLaws.{distinct_take, next_missing, not_contained, ok_where_none, one_taken}
use Rattle.sdm_speed.proofs.profiles.Profile.take_restrictions.Goals as goal

-- the next restriction of a profile is not refused beside those before it
next_taken : (f : Inside) (kept : IsKeptProfile f) (track_cm : ℤ) (i : ℕ) → i < length f.held.items →
    first_beyond track_cm (finite.values (by_identity f.held.items)) ≡ None →
    restrict_fault track_cm (by_identity (take i f.held.items)) (get_or f.held.items i none) ≡ None
next_taken f kept track_cm i known fitting =
    let held = f.held.items in
    let r = get_or held i none in
    let count = len_is held kept.distinct in
    let so_far = len_is (take i held) (distinct_take held i kept.distinct) in
    let some = length-take-le i held (omega arith) in
    let room : finite.len (by_identity (take i held)) < most_restrictions
    = omega (arith, count, so_far, some, kept.in_range.few) in
    let new = not_contained (take i held) r.id (next_missing held i none known kept.distinct) in
    let fits : pos r.end ≤ℤ track_cm
    = all_fit track_cm held (sym (beyond_by_identity track_cm held kept.distinct) ∙ fitting) i none known in
    not_refused track_cm (by_identity (take i held)) r room new ((kept.each_held i none known).some_cell) fits

pub loop-i-init : goal.loop-i-init
loop-i-init c = λ k. record c.args.self.now { restrictions = c.requires.fresh k }

pub unwrap-requires : goal.unwrap-requires
unwrap-requires c =
    let held = c.before-2.inside.held.items in
    let ok_held = c.before-2.inside.held.ok.0 in
    let known : c.loop-i.i < length held = omega (arith, c.len-i-end.ensures, c.loop-i-test.true) in
    let here = get_or_default held c.loop-i.i none c.index.result.now known ∙ sym c.index.ensures in
    let track_cm = c.args.self.now.track_cm in
    let not_refused : restrict_fault track_cm (by_identity (take c.loop-i.i held)) c.index.result.now ≡ None =
    subst (λ (r : Restriction). restrict_fault track_cm (by_identity (take c.loop-i.i held)) r ≡ None) here
    (next_taken c.before-2.inside c.before-2.invariant track_cm c.loop-i.i known
    (rw (← c.before-2.view_is) at c.requires.fitting)) in
    ok_where_none _ c.set.result (rw c.loop-i.invariant not_refused) c.set.ensures.refused

pub loop-i-preserved : goal.loop-i-preserved
loop-i-preserved c =
    let held = c.before-2.inside.held.items in
    let ok_held = c.before-2.inside.held.ok.0 in
    let known : c.loop-i.i < length held = omega (arith, c.len-i-end.ensures, c.loop-i-test.true) in
    let here = get_or_default held c.loop-i.i none c.index.result.now known ∙ sym c.index.ensures in
    let so_far = take c.loop-i.i held in
    let one_more : finite.insert (by_identity so_far) c.index.result.now.id c.index.result.now
    ≡ by_identity (take (c.loop-i.i + 1) held) =
    subst (λ (r : Restriction). finite.insert (by_identity so_far) r.id r ≡ by_identity (take (c.loop-i.i + 1) held))
    here (one_taken held c.loop-i.i none known c.before-2.invariant.distinct) in
    (rw c.loop-i.invariant at (rw c.unwrap.ensures at c.set.ensures.added))
    ∙ (λ k. record c.args.self.now { restrictions = one_more k })

pub returns : goal.returns
returns c =
    let held = c.before-2.inside.held.items in
    let ok_held = c.before-2.inside.held.ok.0 in
    let past : length held ≤ c.loop-i.i = omega (arith, c.len-i-end.ensures, c.loop-i-test.false) in
    let all : by_identity (take c.loop-i.i held) ≡ c.args.before.now.restrictions
    = ap by_identity (take_all c.loop-i.i held past)
    ∙ ap (λ (p : ProfileData). p.restrictions) c.before-2.view_is in
    record { taken = c.loop-i.invariant ∙ (λ k. record c.args.self.now { restrictions = all k }) }
