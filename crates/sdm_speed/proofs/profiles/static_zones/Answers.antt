-- Each start closes a zone and opens the next; the last zone has no end.
use Rattle.std.proofs.Common.{◌≡◌, ◌+◌, ◌-◌, ◌<◌, pos, length, get_or, refl, sym, ◌∙◌, w32, w64, to_z, of_z, arith}
use Rattle.std.proofs.Common.{rules, append_assoc}
use Rattle.std.proofs.lemmas.Int.{ints, to_z-of_z}
use Rattle.std.proofs.lemmas.List.Elements.{All-push}
use Rattle.sdm_rules.specs.Ranges.{longest_track}
use Rattle.sdm_track.specs.Ranges.{IsSpeedStep}
use Rattle.sdm_speed.specs.Zones.{IsZone}
use Rattle.sdm_speed.proofs.StaticLaws.{none, zones_from_next, static_zone}
use Rattle.sdm_speed.proofs.profiles.static_zones.Goals as goal

pub loop-i-preserved : goal.loop-i-preserved
loop-i-preserved c =
    let es = c.args.speeds.now in
    let i = c.loop-i.i in
    let inv = c.loop-i.invariant in
    let e = get_or es (i - 1) none in
    let next = get_or es i none in
    let known : i < length es = omega arith in
    let e_in : IsSpeedStep (pos longest_track) e = c.requires.speeds.each (i - 1) none (omega arith) in
    let next_in : IsSpeedStep (pos longest_track) next = c.requires.speeds.each i none known in
    let start64 : to_z w64 (of_z w64 next.start)
    ≡ next.start = omega (arith, ints, next_in.not_before, next_in.on_track) in
    let start32 : to_z w32 (of_z w32 next.start)
    ≡ next.start = omega (arith, ints, next_in.not_before, next_in.on_track) in
    let speed64 : to_z w64 (of_z w64 e.speed) ≡ e.speed = omega (arith, ints, e_in.least, e_in.greatest) in
    let end32 : to_z w32 (of_z w32 c.end_for.result) ≡ c.end_for.result = to_z-of_z w32 c.end_for.result (search rules)
    in
    let end_is = rw start64 at c.end_for.ensures in
    let pushed = rw (end32, end_is, speed64) at c.push_reserved.ensures.items in
    let same : i + 1 - 1 ≡ i = omega arith in
    rw (start64, start32) (record {
      zones = rw (pushed, append_assoc)
          (rw (zones_from_next (pos c.args.length_cm) c.loop-i.first es i e next known refl refl) at inv.zones);
      opened = λ f is. rw same (let e : next.start ≡ f = cc in sym e);
      in_range = rw pushed (All-push IsZone _ _ inv.in_range
          (static_zone es (i - 1) c.loop-i.first _ e c.requires.speeds (omega arith) refl inv.opened));
      count = omega (arith, c.push_reserved.ensures.len, inv.count);
      room = c.push_reserved.ensures.capacity ∙ inv.room;
    })

pub returns-clause-in_range : goal.returns-clause-in_range
returns-clause-in_range c =
    let es = c.args.speeds.now in
    let last = length es - 1 in
    let e = get_or es last none in
    let known : last < length es = omega (arith, c.requires.speeds.some) in
    let e_in : IsSpeedStep (pos longest_track) e = c.requires.speeds.each last none known in
    let speed64 : to_z w64 (of_z w64 e.speed) ≡ e.speed = omega (arith, ints, e_in.least, e_in.greatest) in
    let at_end : c.loop-i.i ≡ length es = omega (arith, c.requires.speeds.some) in
    rw (c.push_reserved-2.ensures.items, speed64) (All-push IsZone _ _ c.loop-i.invariant.in_range
    (static_zone es last c.loop-i.first _ e c.requires.speeds known refl (rw at_end at c.loop-i.invariant.opened)))
