-- Each restriction gets its zone, and the falls are found among all.
use Rattle.std.proofs.Common.{Some, get_or, arith}
use Rattle.sdm_speed.proofs.HeldLaws.{none}
use Rattle.sdm_braking.specs.KeptFalls.{fall_by}
use Rattle.sdm_braking.proofs.ZoneLaws.{all_restricted, next_restricted, one_curve, restricted_zones, room_for_one}
use Rattle.sdm_braking.proofs.kept_falls.KeptFalls.take_restrictions.Goals as goal

pub loop-i-init : goal.loop-i-init
loop-i-init c = record { zones = c.requires.before; curves = c.requires.curves }

pub keep_zone-requires-clause-room : goal.keep_zone-requires-clause-room
keep_zone-requires-clause-room c =
    let held = c.held-held.result.now in
    let said = c.held-held.ensures in
    room_for_one _ (get_or held c.loop-i.i none) c.loop-i.self
    (next_restricted c.args.profile.now held c.loop-i.i none c.loop-i.self said.all said.distinct said.in_range.few
    c.loop-i-test.true c.loop-i.invariant.zones)

pub loop-i-preserved : goal.loop-i-preserved
loop-i-preserved c =
    let d = c.args.braking.now in
    let held = c.held-held.result.now in
    let said = c.held-held.ensures in
    let inv = c.loop-i.invariant in
    let r = get_or held c.loop-i.i none in
    let old = c.loop-i.self in
    let new = c.keep_zone.new.self in
    let one = rw c.fall_by.ensures.value at c.keep_zone.ensures.zone in
    let next = next_restricted c.args.profile.now held c.loop-i.i none old said.all said.distinct said.in_range.few
    c.loop-i-test.true inv.zones in
    record {
      zones = restricted_zones d _ r old new next one c.keep_zone.ensures.statics c.keep_zone.ensures.room;
      curves = one_curve d (Some r.id) (fall_by r) old.zones new.zones inv.curves one;
    }

pub keep_falls-requires-clause-zones : goal.keep_falls-requires-clause-zones
keep_falls-requires-clause-zones c = all_restricted c.args.profile.now c.held-held.result.now c.loop-i.i c.loop-i.self
    c.held-held.ensures.all (omega (arith, c.loop-i-test.false)) c.loop-i.invariant.zones

pub keep_falls-requires-clause-curves : goal.keep_falls-requires-clause-curves
keep_falls-requires-clause-curves c = c.loop-i.invariant.curves
