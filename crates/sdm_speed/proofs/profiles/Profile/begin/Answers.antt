-- The steps are those of the static speed profile; no restriction is held.
use Rattle.std.proofs.Common.{[], ap, length, arith}
use Rattle.std.proofs.lemmas.Int.{ints}
use Rattle.std.proofs.lemmas.List.{append-nil}
use Rattle.std.proofs.lemmas.List.Elements.{All-nil}
use Rattle.sdm_speed.specs.Held.{IsHeldRestriction}
use Rattle.sdm_speed.proofs.ZoneEndLaws.{zone_ends_none}
use Rattle.sdm_speed.proofs.HeldLaws.{len_is}
use Rattle.sdm_speed.proofs.profiles.Profile.begin.Goals as goal

pub invariant_of-result : goal.invariant_of-result
invariant_of-result c =
    let track_in = c.length_cm-track_cm.ensures.in_range in
    let track_is = c.length_cm-track_cm.ensures.value in
    let speeds_is = c.in_ok-speeds.ensures in
    let held_is = c.in_ok-held.ensures.items in
    let zones_is = rw c.deref.ensures.value at c.in_ok-zones.ensures.value in
    let each = rw zones_is at c.in_ok-zones.ensures.in_range in
    let none = len_is [] tt in
    let statics = rw (c.deref-2.ensures.value, zones_is) at c.in_ok-statics.ensures.speeds in
    let ok_statics = c.in_ok-statics.statics.list.ok.0 in
    let ok_steps = c.reset.new.self.list.ok.0 in
    let ok_held = c.in_ok-held.held.ok.0 in
    record {
      in_range = record {
        top = record { least = c.requires.slowest; greatest = c.requires.fastest };
        shortest_train = omega (arith, ints);
        longest_train = omega (arith, ints);
        longest_track = rw track_is track_in.longest;
        speeds = rw (track_is, speeds_is) track_in.speeds;
        few = rw (held_is, none) (omega arith);
      };
      distinct = rw held_is tt;
      each_static = each;
      each_held = rw held_is (All-nil IsHeldRestriction);
      statics = statics;
      steps = λ cell. rw (c.reset.ensures.before, c.reset.ensures.list, held_is, append-nil) (statics cell);
      steps_before = c.reset.ensures.before;
      zone_ends = rw (c.reset.ensures.list, held_is) (zone_ends_none _ _);
      statics_few = omega (
        arith,
        c.in_ok-statics.ensures.few,
        c.in_ok-zones.ensures.many,
        ap length c.deref.ensures.value,
        c.deref-2.ensures.len,
        c.len.ensures,
      );
      steps_few = omega (arith, ap length c.reset.ensures.list);
      held_room = omega (arith, c.in_ok-held.ensures.exact);
      steps_room = omega (
        arith,
        c.reset.ensures.room,
        c.in_ok-steps.ensures.room,
        c.in_ok-statics.ensures.few,
        c.deref-2.ensures.len,
        c.len.ensures,
      );
    }

pub reset-requires : goal.reset-requires
reset-requires c =
    let ok_statics = c.in_ok-statics.statics.list.ok.0 in
    omega (arith, c.in_ok-steps.ensures.room, c.in_ok-statics.ensures.few, c.deref-2.ensures.len, c.len.ensures)
