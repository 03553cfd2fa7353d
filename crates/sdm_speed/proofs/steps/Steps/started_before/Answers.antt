-- The steps that start before the cell come first.
use Rattle.std.proofs.Common.{int_lt, arith, rules}
use Rattle.std.proofs.lemmas.List.Sorted.{IsPartitionPoint-from_clause}
use Rattle.sdm_num.proofs.Comparisons.{lt_of, not_lt_of}
use Rattle.sdm_speed.specs.declared.steps.Step.{Step}
use Rattle.sdm_speed.proofs.StepLaws.{starts_parted}
use Rattle.sdm_speed.proofs.steps.Steps.started_before.Goals as goal

pub returns : goal.returns
returns c =
    let slice = c.deref.result.now in
    let i = c.parted.result in
    let cell = c.args.cell in
    let parts = IsPartitionPoint-from_clause (λ (s : Step). int_lt s.start cell) slice i
    c.parted.ensures.partitioned
    (starts_parted slice cell (rw c.deref.ensures.value c.args.self.now.rises)) (λ a r f called. search rules) in
    rw (← c.deref.ensures.value) (record {
      bound = c.parted.ensures.bound;
      before = λ k d l. lt_of _ _ (parts.0 k d (omega arith) l);
      from = λ k d l m. not_lt_of _ _ (parts.1 k d l m);
    })
