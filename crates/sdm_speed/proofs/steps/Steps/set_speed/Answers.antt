-- The step starts where it did.
use Rattle.std.proofs.Common.{ap}
use Rattle.sdm_speed.specs.declared.steps.Step.{Step}
use Rattle.sdm_speed.proofs.StepLaws.{set_rising}
use Rattle.sdm_speed.proofs.steps.Steps.set_speed.Goals as goal

pub invariant_of-self : goal.invariant_of-self
invariant_of-self c =
    let start_is = ap (λ (s : Step). s.start) c.index_mut.ensures.value in
    record {
      rises = set_rising c.args.self.now.list.items c.args.i _ c.index_mut.result.now start_is c.args.self.now.rises;
    }
