-- The steps have the speeds at their starts, and these are the ends of zones that are left, where alone the speeds
-- change.
use Rattle.std.proofs.Common.{◌≡◌, pos, inl, inr, w32, to_z, of_z, subst, sym, ap, ◌∙◌, rules}
use Rattle.std.proofs.lemmas.Int.{to_z-of_z}
use Rattle.sdm_rules.specs.Profile.{end_for}
use Rattle.sdm_speed.specs.declared.ends.Cells.{Cells}
use Rattle.sdm_speed.specs.ZoneEnds.{IsZoneEnd, speed_under}
use Rattle.sdm_speed.specs.Steps.{IsStart}
use Rattle.sdm_speed.proofs.ZoneEndLaws.{under_before, under_same}
use Rattle.sdm_speed.proofs.SteadyLaws.{retaken_only, retaken_speeds, retaken_starts, speeds_by_starts}
use Rattle.sdm_speed.proofs.lifts.raise.Goals as goal

pub returns-clause-zone_ends : goal.returns-clause-zone_ends
returns-clause-zone_ends c =
    let length_cm = pos c.args.length_cm in
    let statics = c.args.statics.now.list.items in
    let held = c.args.held.now in
    let speed = speed_under length_cm c.args.statics.now.before statics held in
    let steps = c.args.steps.now.list.items in
    let cells = c.cells_of-cells.result in
    let first_is : to_z w32 (of_z w32 cells.first) ≡ pos c.args.lifted.start = to_z-of_z w32 cells.first (search rules)
    ∙ ap (λ (x : Cells). x.first) c.cells_of-cells.ensures in
    let past_is : to_z w32 (of_z w32 cells.past) ≡ end_for length_cm c.args.lifted.delayed
    (pos c.args.lifted.end) =
    to_z-of_z w32 cells.past (search rules) ∙ ap (λ (x : Cells). x.past) c.cells_of-cells.ensures in
    let one = c.join_unless_zone_end.ensures in
    let both = c.join_unless_zone_end-2.ensures in
    record {
      each = λ x zone_end. both.others x zone_end (one.others x zone_end
          (rw c.retake.ensures.list (retaken_starts speed x steps (c.requires.each x zone_end))));
      no_other = λ x start. elim (c.requires.no_other x
          (retaken_only speed x steps (rw c.retake.ensures.list at (one.fewer x (both.fewer x start))))) [
            | inl zone_end ↦ zone_end
            | inr end ↦ elim end [
              | inl e ↦ subst (IsZoneEnd length_cm statics held) (first_is ∙ e)
                  (one.here (subst (λ z. IsStart z c.join_unless_zone_end.new.steps.list.items) (sym (first_is ∙ e))
                  (both.fewer x start)))
              | inr e ↦ subst (IsZoneEnd length_cm statics held) (past_is ∙ e)
                  (both.here
                  (subst (λ z. IsStart z c.join_unless_zone_end-2.new.steps.list.items) (sym (past_is ∙ e)) start))
            ]
          ];
    }

pub returns-clause-before : goal.returns-clause-before
returns-clause-before c = c.join_unless_zone_end-2.ensures.before ∙ c.join_unless_zone_end.ensures.before
    ∙ c.retake.ensures.before ∙ c.requires.before

pub returns-clause-speeds : goal.returns-clause-speeds
returns-clause-speeds c =
    let length_cm = pos c.args.length_cm in
    let statics = c.args.statics.now.list.items in
    let held = c.args.held.now in
    let before = c.args.statics.now.before in
    let speed = speed_under length_cm before statics held in
    let one = c.join_unless_zone_end.ensures in
    let both = c.join_unless_zone_end-2.ensures in
    let zone_ends = returns-clause-zone_ends c in
    let steps = c.join_unless_zone_end-2.new.steps.list.items in
    rw (returns-clause-before c) (speeds_by_starts speed before steps c.join_unless_zone_end-2.new.steps.rises
    (both.speeds speed (one.speeds speed (rw c.retake.ensures.list (retaken_speeds speed c.args.steps.now.list.items))))
    (λ x after. under_before length_cm before statics held x steps c.args.statics.now.rises zone_ends.each after)
    (λ x off. under_same length_cm before statics held x (λ zone_end. off (zone_ends.each x zone_end))))
