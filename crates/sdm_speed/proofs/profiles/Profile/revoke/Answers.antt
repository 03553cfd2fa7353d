-- The restriction is taken out, and the steps in its zone are raised to what is left.
use Rattle.std.proofs.Common.{pos, map, refl, sym, ap, ◌∙◌, arith}
use Rattle.std.proofs.lemmas.Int.{ints}
use Rattle.sdm_rules.specs.Profile.{lowest_limit, zone_of}
use Rattle.sdm_speed.specs.Held.{AreDistinct, IsHeldRestriction}
use Rattle.sdm_speed.specs.ProfileFields.{static_zones_of}
use Rattle.sdm_speed.proofs.ZoneLaws.{lowest_limit-after}
use Rattle.sdm_speed.proofs.ZoneEndLaws.{each_left, few_starts, limit_less, no_other_left}
use Rattle.sdm_speed.proofs.HeldLaws.{get_at, len_is, contains_is, distinct_less, none, removed, All-remove}
use Rattle.sdm_speed.proofs.KeptLaws.{held_count, with_held}
use Rattle.sdm_speed.proofs.profiles.Profile.revoke.Goals as goal

pub returns-in_default-clause-refused : goal.returns-in_default-clause-refused
returns-in_default-clause-refused c =
    let index = rw c.deref.ensures.value at c.in_default.ensures in
    rw (← c.self.view_is, contains_is c.self.inside.held.items c.args.id, ← index) refl

pub raise-requires : goal.raise-requires
raise-requires c =
    let kept = c.self.invariant in
    let held = c.self.inside.held.items in
    let length_cm = pos c.self.inside.length_cm in
    let longest = kept.in_range.longest_train in
    let index = rw c.deref.ensures.value at c.in-Some.ensures in
    let known = (get_at held c.args.id c.in-Some.index none (sym index)).0 in
    rw (c.deref-2.ensures.value, c.remove_at-lifted.ensures.items) (record {
      speeds = λ cell.
          kept.steps cell ∙ lowest_limit-after c.self.inside.max_speed cell (static_zones_of c.self.inside)
          (map (zone_of length_cm) held)
          ∙ ap (λ n. lowest_limit n cell (map (zone_of length_cm) held)) (sym (kept.statics cell))
          ∙ rw c.remove_at-lifted.ensures.value
          (limit_less _ cell length_cm held c.in-Some.index c.remove_at-lifted.result known);
      before = kept.steps_before;
      each = λ cell. each_left length_cm _ held c.in-Some.index _ kept.zone_ends cell;
      no_other = λ cell start. rw c.remove_at-lifted.ensures.value
          (no_other_left length_cm _ held c.in-Some.index _ kept.zone_ends cell c.remove_at-lifted.result start);
      held = All-remove IsHeldRestriction _ _ kept.each_held;
      lifted = rw c.remove_at-lifted.ensures.value (kept.each_held c.in-Some.index c.remove_at-lifted.result known);
      train = omega (arith, ints);
      few = omega (arith, kept.steps_few, kept.statics_few, kept.in_range.speeds.few, kept.in_range.few, held_count _ kept _ refl, c.self.inside.held.ok.0, c.self.inside.speeds.ok.0, c.self.inside.statics.list.ok.0, c.self.inside.steps.list.ok.0);
    })

pub invariant_of-self : goal.invariant_of-self
invariant_of-self c =
    let kept = c.self.invariant in
    let held = c.self.inside.held.items in
    let length_cm = pos c.self.inside.length_cm in
    let top = c.self.inside.max_speed in
    let left = c.remove_at-lifted.new.list in
    let distinct : AreDistinct left.items = rw c.remove_at-lifted.ensures.items
    (distinct_less held c.in-Some.index kept.distinct) in
    let ok_held = c.self.inside.held.ok.0 in
    let ok_left = left.ok.0 in
    let raised = rw c.deref-2.ensures.value at c.raise.ensures in
    let few = few_starts _ _ _ _ c.raise.new.steps.rises raised.zone_ends in
    let ok_statics = c.self.inside.statics.list.ok.0 in
    let ok_steps = c.raise.new.steps.list.ok.0 in
    record {
      in_range = with_held _ _ kept.in_range (rw (len_is left.items distinct)
          (omega (arith, c.remove_at-lifted.ensures.len, held_count _ kept _ refl, kept.in_range.few)));
      distinct = distinct;
      each_static = kept.each_static;
      each_held = rw c.remove_at-lifted.ensures.items (All-remove IsHeldRestriction _ _ kept.each_held);
      statics = kept.statics;
      steps = λ cell.
          raised.speeds cell ∙ ap (λ n. lowest_limit n cell (map (zone_of length_cm) left.items)) (kept.statics cell)
          ∙ sym (lowest_limit-after top cell (static_zones_of c.self.inside) (map (zone_of length_cm) left.items));
      steps_before = raised.before;
      zone_ends = raised.zone_ends;
      statics_few = kept.statics_few;
      steps_few = omega (arith, few);
      held_room = omega (arith, kept.held_room, c.remove_at-lifted.ensures.room);
      steps_room = omega (arith, kept.steps_room, raised.room);
    }

pub returns-clause-accepted : goal.returns-clause-accepted
returns-clause-accepted c =
    let index = rw c.deref.ensures.value at c.in-Some.ensures in
    rw (← c.self.view_is, contains_is c.self.inside.held.items c.args.id, ← index) refl

pub returns-clause-removed : goal.returns-clause-removed
returns-clause-removed c =
    let index = rw c.deref.ensures.value at c.in-Some.ensures in
    rw (
      ← c.self.view_is,
      c.remove_at-lifted.ensures.items,
      removed c.self.inside.held.items c.args.id c.in-Some.index c.self.invariant.distinct (sym index),
    ) refl
