-- The first step that does not start before the cell starts at it, or none does.
use Rattle.std.proofs.Common.{◌≡◌, w32, w64, to_z, of_z, sym, ap, ◌∙◌, arith, rules}
use Rattle.std.proofs.lemmas.Int.{ints, to_z-of_z}
use Rattle.std.proofs.lemmas.Bool.{eq-eqb, eqb-true}
use Rattle.std.proofs.lemmas.List.{get_or_default}
use Rattle.sdm_speed.specs.declared.steps.Step.{Step}
use Rattle.sdm_speed.proofs.SplitLaws.{index_is_start}
use Rattle.sdm_speed.proofs.StepLaws.{none, start_here}
use Rattle.sdm_speed.proofs.steps.Steps.starts_at.Goals as goal

pub returns-then-i-len-clause-yes : goal.returns-then-i-len-clause-yes
returns-then-i-len-clause-yes c on =
    let list = c.args.self.now.list.items in
    let step = c.index.result.now in
    let cell_is : to_z w32 (of_z w32 c.args.cell) ≡ c.args.cell = to_z-of_z w32 c.args.cell c.ranges.cell in
    let start_is : to_z w32 (of_z w32 step.start) ≡ step.start = to_z-of_z w32 step.start (search rules) in
    let here : step.start ≡ c.args.cell = sym start_is ∙ ap (to_z w32) (eqb-true _ _ on) ∙ cell_is in
    let whole = c.args.self.now.list.ok.0 in
    rw (← here, c.index.ensures)
    (index_is_start list c.started_before-i.result step (omega (arith, c.if-i-len.true, c.len.ensures)))

pub returns-then-i-len-clause-no : goal.returns-then-i-len-clause-no
returns-then-i-len-clause-no c start =
    let list = c.args.self.now.list.items in
    let i = c.started_before-i.result in
    let step = c.index.result.now in
    let cell_is : to_z w32 (of_z w32 c.args.cell) ≡ c.args.cell = to_z-of_z w32 c.args.cell c.ranges.cell in
    let wide : to_z w64 (of_z w64 c.from.result) ≡ c.args.cell = omega (arith, ints, c.from.ensures, cell_is) in
    let parted = rw wide at c.started_before-i.ensures in
    let here = start_here list i c.args.cell none c.args.self.now.rises parted start in
    let step_is = ap (λ (s : Step). s.start) (c.index.ensures ∙ get_or_default list i step none here.0) in
    eq-eqb _ _ (ap (of_z w32) (step_is ∙ here.1))

pub returns-else-i-len-clause-no : goal.returns-else-i-len-clause-no
returns-else-i-len-clause-no c start =
    let list = c.args.self.now.list.items in
    let i = c.started_before-i.result in
    let cell_is : to_z w32 (of_z w32 c.args.cell) ≡ c.args.cell = to_z-of_z w32 c.args.cell c.ranges.cell in
    let wide : to_z w64 (of_z w64 c.from.result) ≡ c.args.cell = omega (arith, ints, c.from.ensures, cell_is) in
    let parted = rw wide at c.started_before-i.ensures in
    let here = start_here list i c.args.cell none c.args.self.now.rises parted start in
    absurd (omega (arith, here.0, c.if-i-len.false, c.len.ensures))
