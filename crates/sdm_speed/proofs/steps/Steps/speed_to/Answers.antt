-- It is that of the step before it.
use Rattle.std.proofs.Common.{◌≡◌, ◌-◌, suc, sym, ap, ◌∙◌, arith}
use Rattle.sdm_speed.specs.declared.steps.Step.{Step}
use Rattle.sdm_speed.proofs.StepLaws.{speed_to_next}
use Rattle.sdm_speed.proofs.steps.Steps.speed_to.Goals as goal

pub returns-else-i-eq0 : goal.returns-else-i-eq0
returns-else-i-eq0 c =
    let one_before : c.args.i ≡ suc (c.args.i - 1) = omega arith in
    rw one_before (ap (λ (s : Step). s.speed) c.index.ensures
    ∙ sym (speed_to_next c.args.self.now.before c.args.self.now.list.items (c.args.i - 1) c.index.result.now
    (omega arith)))
