-- Above the train's speed a target only says whether it is covered.
use Rattle.std.proofs.Common.{◌≡◌, not, true, ◌&&◌, ◌∙◌, refl, sym}
use Rattle.std.specs.Option.{option_map_or}
use Rattle.std.proofs.Math.Bool.{and-true}
use Rattle.sdm_rules.specs.Limits.{computed, limits_of}
use Rattle.sdm_rules.specs.Supervision.{is_covered_for}
use Rattle.sdm_rules.specs.Triggers.{is_past}
use Rattle.sdm_order.proofs.Enough.{covered_where_met}
use Rattle.sdm_supervisor.proofs.PassedLaws.{covered_unmet}
use Rattle.sdm_supervisor.proofs.PassedLaws.{slower_said}
use Rattle.sdm_supervisor.proofs.verdicts.Verdict.add_faster.Goals as goal
use Rattle.sdm_supervisor.proofs.verdicts.Verdict.add_faster.Goals.{else-self-via-then-self+else-not-is_met_by_speed}
use Rattle.sdm_supervisor.proofs.verdicts.Verdict.add_faster.Goals.{else-self-via-else-self}

pub returns-then-not-is_met_by_speed : goal.returns-then-not-is_met_by_speed
returns-then-not-is_met_by_speed c ts is =
    let d = c.args.braking.now in
    let e = c.args.asked.now.estimate in
    let max = c.args.reading.now.max in
    let t = c.args.kept.now.target in
    let met = sym c.if-not-is_met_by_speed.true ∙ c.is_met_by_speed.ensures d c.requires.asked in
    let before = c.is_before_ebi-self.ensures
    ∙ (λ k. option_map_or (λ ebi. not (is_past 0 (c.max_mm-max.ensures k) ebi)) (limits_of computed d e t).ebi true) in
    let covered = before ∙ covered_unmet max _ (limits_of computed d e t).ebi met in
    slower_said is c.requires.kept.speeds c.requires.faster
    (covered ∙ (λ k. sym c.if-self.true k && is_covered_for d max e t))

pub returns-else-self : goal.returns-else-self
returns-else-self c ts is =
    let d = c.args.braking.now in
    let e = c.args.asked.now.estimate in
    let max = c.args.reading.now.max in
    let t = c.args.kept.now.target in
    let p = c.args.self.now in
    let covered : p.covered ≡ (p.covered && is_covered_for d max e t) = elim c.else-self.branch [
      | else-self-via-then-self+else-not-is_met_by_speed w ↦
          let met = covered_where_met max _ (limits_of computed d e t).ebi
          (sym (w.is_met_by_speed.ensures d c.requires.asked) ∙ w.if-not-is_met_by_speed.false) in
          sym (and-true p.covered) ∙ (λ k. p.covered && sym met k)
      | else-self-via-else-self w ↦ rw w.if-self.false refl
    ] in
    slower_said is c.requires.kept.speeds c.requires.faster covered
