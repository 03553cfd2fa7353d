-- The step is the fall, or the search goes on past it.
use Rattle.std.proofs.Common.{◌≡◌, ◌+◌, Option, None, get_or, drop, w32, to_z, of_z, sym, subst, ◌∙◌, rules}
use Rattle.std.proofs.lemmas.Int.{to_z-of_z}
use Rattle.std.proofs.lemmas.List.{drop_more, drop_all}
use Rattle.sdm_rules.specs.declared.targets.Fall.{Fall}
use Rattle.sdm_speed.specs.Steps.{IsFallAfter, speeds_of}
use Rattle.sdm_speed.proofs.StepLaws.{none}
use Rattle.sdm_speed.proofs.FallLaws.{first_fall, first_fall_is, falls_first, falls_later}
use Rattle.sdm_speed.proofs.steps.first_fall.Goals as goal

pub loop-i-preserved : goal.loop-i-preserved
loop-i-preserved c =
    let steps = c.args.steps.now in
    let i = c.loop-i.i in
    sym (falls_later c.loop-i.before (get_or steps i none) (drop (i + 1) steps) c.if-step-before.false)
    ∙ (rw (drop_more steps i none c.loop-i-test.true) at c.loop-i.invariant)

pub returns-then-step-before-clause-value : goal.returns-then-step-before-clause-value
returns-then-step-before-clause-value c after later =
    let steps = c.args.steps.now in
    let i = c.loop-i.i in
    let step = get_or steps i none in
    let rest = drop c.args.from steps in
    let start_is : to_z w32 (of_z w32 step.start) ≡ step.start = to_z-of_z w32 step.start (search rules) in
    let found = sym (rw (drop_more steps i none c.loop-i-test.true) at c.loop-i.invariant)
    ∙ falls_first c.loop-i.before step (drop (i + 1) steps) c.if-step-before.true in
    rw start_is (subst (λ (next : Option Fall). IsFallAfter (speeds_of c.args.speed rest) after next) found
    (first_fall_is c.args.speed rest after later))

pub returns-clause-value : goal.returns-clause-value
returns-clause-value c after later =
    let steps = c.args.steps.now in
    let rest = drop c.args.from steps in
    let found : first_fall c.args.speed rest
    ≡ None = sym (rw (drop_all c.loop-i.i steps c.loop-i-test.false) at c.loop-i.invariant) in
    subst (λ (next : Option Fall). IsFallAfter (speeds_of c.args.speed rest) after next) found
    (first_fall_is c.args.speed rest after later)
