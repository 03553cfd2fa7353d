-- There is a zone at each fall; there are no more falls than there is room for.
use Rattle.std.proofs.Common.{◌≡◌, ◌<ℤ◌, ◌+◌, List, [], ◌∷◌, length, length-append, w32, to_z, of_z, refl, subst}
use Rattle.std.proofs.Common.{◌∙◌, arith, rules}
use Rattle.std.proofs.lemmas.Int.{ints, to_z-of_z}
use Rattle.std.proofs.lemmas.List.Elements.{All-append, All-cons, All-nil}
use Rattle.sdm_speed.specs.Falls.{AreAtFalls}
use Rattle.sdm_speed.specs.Profiles.{mrsp_of, zones_of}
use Rattle.sdm_targets.proofs.CountLaws.{fall_counts, falls_few, passed_most, zones_few}
use Rattle.sdm_braking.specs.KeptFalls.{IsKeptFall, KeptFallData, fall_of, first_cell, kept_at}
use Rattle.sdm_braking.proofs.KeptFallLaws.{begun_more}
use Rattle.sdm_braking.proofs.ZoneLaws.{kept_zone, no_more, zone_at_fall}
use Rattle.sdm_braking.proofs.kept_falls.KeptFalls.fill.Goals as goal

pub zone_of-place-requires : goal.zone_of-place-requires
zone_of-place-requires c =
    let p = c.args.profile.now in
    let inv = c.loop-fall.invariant in
    let fall = c.in-Some.fall in
    let next = c.in-Some.ensures.value in
    let low = inv.low in
    let beyond = next.beyond in
    let past : first_cell <ℤ fall.cell = omega (arith, ints) in
    rw inv.zones (zone_at_fall p c.args.self.now fall c.requires past c.in-Some.ensures.zone)

pub push-requires-clause-room : goal.push-requires-clause-room
push-requires-clause-room c =
    let p = c.args.profile.now in
    let inv = c.loop-fall.invariant in
    let more = fall_counts p _ c.in-Some.fall c.in-Some.ensures.value in
    omega (
      arith,
      inv.few,
      more,
      passed_most (zones_of p) c.in-Some.fall.cell,
      zones_few p c.in-Some.ensures.profile_in_range,
      inv.room,
      c.requires.room,
    )

pub push-requires-clause-few : goal.push-requires-clause-few
push-requires-clause-few c =
    let p = c.args.profile.now in
    let fall = c.in-Some.fall in
    let more = fall_counts p _ fall c.in-Some.ensures.value in
    let inv = c.loop-fall.invariant in
    let few = falls_few p fall.cell (length c.loop-fall.self.list + 1) c.in-Some.ensures.profile_in_range
    (omega (arith, inv.few, more)) in
    omega (arith, few)

pub loop-fall-preserved : goal.loop-fall-preserved
loop-fall-preserved c =
    let p = c.args.profile.now in
    let inv = c.loop-fall.invariant in
    let fall = c.in-Some.fall in
    let next = c.in-Some.ensures.value in
    let zs = c.loop-fall.self.zones in
    let list = c.loop-fall.self.list in
    let k : KeptFallData = kept_at zs (record { fall = fall; place = c.zone_of-place.result }) in
    let more = fall_counts p _ fall next in
    let low = inv.low in
    let beyond = next.beyond in
    let cell_is : to_z w32 (of_z w32 fall.cell) ≡ fall.cell = to_z-of_z w32 fall.cell (search rules) in
    rw cell_is (record {
      falls = rw c.push.ensures.list (begun_more (mrsp_of p) _ list k fall refl next inv.falls);
      each = λ d curves. rw c.push.ensures.list (All-append (IsKeptFall d) list (k ∷ []) (inv.each d curves)
          (All-cons (IsKeptFall d) k [] (kept_zone d zs fall c.zone_of-place.result c.zone_of-place.ensures
          (rw inv.zones curves)) (All-nil (IsKeptFall d))));
      few = rw (c.push.ensures.list, length-append list (k ∷ [])) (omega (arith, more, inv.few));
      zones = c.push.ensures.zones ∙ inv.zones;
      statics = c.push.ensures.statics ∙ inv.statics;
      room = c.push.ensures.room ∙ inv.room;
      low = omega (arith, ints);
    })

pub returns-clause-falls : goal.returns-clause-falls
returns-clause-falls c =
    subst (λ (ks : List KeptFallData). AreAtFalls fall_of (mrsp_of c.args.profile.now) first_cell ks)
    (no_more c.loop-fall.self.list) (c.loop-fall.invariant.falls [] c.in_default.ensures.value)

pub returns-clause-few : goal.returns-clause-few
returns-clause-few c =
    falls_few c.args.profile.now _ _ c.in_default.ensures.profile_in_range c.loop-fall.invariant.few
