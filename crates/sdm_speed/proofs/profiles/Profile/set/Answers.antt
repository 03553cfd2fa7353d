-- What is not refused is new and has room: the restriction stands at the end of those held, and its zone lowers the
-- steps.
use Rattle.std.proofs.Common.{◌≡◌, ℤ, pos, [], ◌∷◌, ◌++◌, map, ◌≤◌, refl, sym, ap, ◌∙◌, arith, append_assoc}
use Rattle.std.proofs.Common.{length-append}
use Rattle.std.proofs.lemmas.Int.{ints}
use Rattle.std.proofs.lemmas.List.{map-append}
use Rattle.std.proofs.lemmas.List.Elements.{All-push}
use Rattle.sdm_rules.specs.declared.restrictions.Restriction.{Restriction}
use Rattle.sdm_rules.specs.Profile.{capped, zone_of}
use Rattle.sdm_rules.specs.Ranges.{top_kmh}
use Rattle.sdm_speed.specs.Zones.{zone_limits}
use Rattle.sdm_speed.specs.Held.{IsHeldRestriction}
use Rattle.sdm_speed.specs.Profiles.{ProfileData, IsProfile}
use Rattle.sdm_speed.specs.ProfileFields.{profile_data_of, static_zones_of, held_zones_of}
use Rattle.sdm_speed.proofs.ZoneLaws.{lowest_limit-push}
use Rattle.sdm_speed.proofs.HeldLaws.{len_is, missing_of, distinct_more, inserted}
use Rattle.sdm_speed.proofs.KeptLaws.{held_count, with_held}
use Rattle.sdm_speed.proofs.ZoneEndLaws.{zone_ends_more}
use Rattle.sdm_speed.proofs.RestrictLaws.{IsAcceptedRestriction, accepted}
use Rattle.sdm_speed.proofs.profiles.Profile.set.Goals as goal

pub push_reserved-requires : goal.push_reserved-requires
push_reserved-requires c =
    let kept = c.self.invariant in
    let ok = accepted c.args.self.now.track_cm c.args.self.now.restrictions c.args.r
    (sym (rw c.in_ok-check.was at c.check.ensures)) in
    let ok_held = c.self.inside.held.ok.0 in
    omega (arith, ok.room, held_count _ kept _ c.self.view_is, kept.held_room)

-- a restriction that is accepted
held_of : (p : ProfileData) (r : Restriction) → IsProfile p → IsAcceptedRestriction p.track_cm p.restrictions r →
    1 ≤ r.speed → r.speed ≤ top_kmh → IsHeldRestriction r
held_of p r in_range ok slowest fastest = record {
  some_cell = ok.some;
  on_track = omega (arith, ints, ok.on_track, in_range.longest_track);
  limited = record { least = slowest; greatest = fastest };
}

pub zone_of-requires : goal.zone_of-requires
zone_of-requires c =
    let kept = c.self.invariant in
    let ok = accepted (profile_data_of c.self.inside).track_cm (profile_data_of c.self.inside).restrictions c.args.r
    (sym (rw (c.in_ok-check.was, ← c.self.view_is) at c.check.ensures)) in
    let longest = kept.in_range.longest_train in
    record {
      track = held_of (profile_data_of c.self.inside) c.args.r kept.in_range ok c.requires.slowest c.requires.fastest;
      train = omega (arith, ints);
    }

pub lower-requires : goal.lower-requires
lower-requires c =
    let kept = c.self.invariant in
    let ok = accepted c.args.self.now.track_cm c.args.self.now.restrictions c.args.r
    (sym (rw c.in_ok-check.was at c.check.ensures)) in
    let ok_held = c.self.inside.held.ok.0 in
    omega (arith, ok.room, held_count _ kept _ c.self.view_is, kept.steps_few, kept.steps_room)

pub invariant_of-self : goal.invariant_of-self
invariant_of-self c =
    let kept = c.self.invariant in
    let held = c.self.inside.held.items in
    let length_cm = pos c.self.inside.length_cm in
    let ok = accepted (profile_data_of c.self.inside).track_cm (profile_data_of c.self.inside).restrictions c.args.r
    (sym (rw (c.in_ok-check.was, ← c.self.view_is) at c.check.ensures)) in
    let distinct = distinct_more held c.args.r kept.distinct (missing_of held c.args.r.id ok.new) in
    let count = held_count _ kept _ refl in
    let ok_held = c.self.inside.held.ok.0 in
    let zones = static_zones_of c.self.inside ++ held_zones_of c.self.inside in
    let lowered : (cell : ℤ) → capped cell c.zone_of.result (zone_limits c.self.inside.max_speed zones cell)
    ≡ zone_limits c.self.inside.max_speed
    (static_zones_of c.self.inside ++ map (zone_of length_cm) (held ++ c.args.r ∷ [])) cell = λ cell.
    rw (c.zone_of.ensures, map-append (zone_of length_cm) held (c.args.r ∷ []), ← append_assoc)
    (sym (lowest_limit-push c.self.inside.max_speed cell zones (zone_of length_cm c.args.r))) in
    record {
      in_range = with_held _ _ kept.in_range
          (rw (c.push_reserved.ensures.items, len_is _ distinct, length-append) (omega (arith, ok.room, count)));
      distinct = rw c.push_reserved.ensures.items distinct;
      each_static = kept.each_static;
      each_held = rw c.push_reserved.ensures.items (All-push IsHeldRestriction _ _ kept.each_held
          (held_of (profile_data_of c.self.inside) c.args.r kept.in_range ok c.requires.slowest c.requires.fastest));
      statics = kept.statics;
      steps = λ cell. rw c.push_reserved.ensures.items
          (c.lower.ensures.speeds cell ∙ ap (capped cell c.zone_of.result) (kept.steps cell) ∙ lowered cell);
      steps_before = rw c.zone_of.ensures at c.lower.ensures.before ∙ kept.steps_before;
      zone_ends = rw c.push_reserved.ensures.items (zone_ends_more length_cm _ held c.args.r _ _ kept.zone_ends
          (rw c.zone_of.ensures at c.lower.ensures.starts));
      statics_few = kept.statics_few;
      steps_few = omega (arith, kept.steps_few, c.lower.ensures.few, c.push_reserved.ensures.len);
      held_room = omega (arith, kept.held_room, c.push_reserved.ensures.capacity);
      steps_room = omega (arith, kept.steps_room, c.lower.ensures.room);
    }

pub returns-clause-added : goal.returns-clause-added
returns-clause-added c =
    let ok = accepted (profile_data_of c.self.inside).track_cm (profile_data_of c.self.inside).restrictions c.args.r
    (sym (rw (c.in_ok-check.was, ← c.self.view_is) at c.check.ensures)) in
    let missing = missing_of c.self.inside.held.items c.args.r.id ok.new in
    rw (← c.self.view_is, c.push_reserved.ensures.items, inserted c.self.inside.held.items c.args.r missing) refl

pub returns-clause-held : goal.returns-clause-held
returns-clause-held c =
    let p = profile_data_of c.self.inside in
    let ok = accepted p.track_cm p.restrictions c.args.r
    (sym (rw (c.in_ok-check.was, ← c.self.view_is) at c.check.ensures)) in
    held_of p c.args.r c.self.invariant.in_range ok c.requires.slowest c.requires.fastest
