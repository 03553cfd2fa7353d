-- The step that starts at the cell is taken out, if there is one.
use Rattle.std.proofs.Common.{◌≡◌, ◌<◌, length, get_or, w32, w64, to_z, of_z, sym, ap, ◌∙◌, arith, rules, inl, inr}
use Rattle.std.proofs.lemmas.Int.{ints, to_z-of_z}
use Rattle.std.proofs.lemmas.List.{get_or_default}
use Rattle.sdm_speed.specs.declared.steps.Step.{Step}
use Rattle.sdm_speed.proofs.JoinLaws.{remove_fewer, remove_gone, remove_others, remove_rising, remove_speeds}
use Rattle.sdm_speed.proofs.StepLaws.{none, start_here}
use Rattle.sdm_speed.proofs.steps.Steps.join.Goals as goal
use Rattle.sdm_speed.proofs.steps.Steps.join.Goals.{else-i-len-via-then-i-len+else-index-cell}
use Rattle.sdm_speed.proofs.steps.Steps.join.Goals.{else-i-len-via-else-i-len}

pub invariant_of-self : goal.invariant_of-self
invariant_of-self c = record {
  rises = rw c.remove_at.ensures.items
      (remove_rising c.args.self.now.list.items c.started_before-i.result c.args.self.now.rises);
}

pub returns-then-index-cell-clause-speeds : goal.returns-then-index-cell-clause-speeds
returns-then-index-cell-clause-speeds c speed each =
    rw c.remove_at.ensures.items (remove_speeds speed c.args.self.now.list.items c.started_before-i.result each)

pub returns-then-index-cell-clause-fewer : goal.returns-then-index-cell-clause-fewer
returns-then-index-cell-clause-fewer c x start =
    remove_fewer x c.args.self.now.list.items c.started_before-i.result (rw c.remove_at.ensures.items at start)

pub returns-then-index-cell-clause-gone : goal.returns-then-index-cell-clause-gone
returns-then-index-cell-clause-gone c start =
    let list = c.args.self.now.list.items in
    let i = c.started_before-i.result in
    let step = c.index.result.now in
    let cell_is : to_z w32 (of_z w32 c.args.cell) ≡ c.args.cell = to_z-of_z w32 c.args.cell c.ranges.cell in
    let start_is : to_z w32 (of_z w32 step.start) ≡ step.start = to_z-of_z w32 step.start (search rules) in
    let whole = c.args.self.now.list.ok.0 in
    let known : i < length list = omega (arith, c.if-i-len.true, c.len.ensures) in
    let here : (get_or list i none).start ≡ c.args.cell = ap (λ (s : Step). s.start)
    (sym (c.index.ensures ∙ get_or_default list i step none known)) ∙ sym start_is
    ∙ ap (to_z w32) c.if-index-cell.true ∙ cell_is in
    remove_gone list i none c.args.self.now.rises known (rw here (rw c.remove_at.ensures.items at start))

pub returns-then-index-cell-clause-others : goal.returns-then-index-cell-clause-others
returns-then-index-cell-clause-others c x start =
    let list = c.args.self.now.list.items in
    let i = c.started_before-i.result in
    let step = c.index.result.now in
    let cell_is : to_z w32 (of_z w32 c.args.cell) ≡ c.args.cell = to_z-of_z w32 c.args.cell c.ranges.cell in
    let start_is : to_z w32 (of_z w32 step.start) ≡ step.start = to_z-of_z w32 step.start (search rules) in
    let whole = c.args.self.now.list.ok.0 in
    let known : i < length list = omega (arith, c.if-i-len.true, c.len.ensures) in
    let here : (get_or list i none).start ≡ c.args.cell = ap (λ (s : Step). s.start)
    (sym (c.index.ensures ∙ get_or_default list i step none known)) ∙ sym start_is
    ∙ ap (to_z w32) c.if-index-cell.true ∙ cell_is in
    elim (remove_others x list i none start) [
      | inl e ↦ inl (e ∙ here)
      | inr rest ↦ inr (rw c.remove_at.ensures.items rest)
    ]

pub returns-else-i-len-clause-gone : goal.returns-else-i-len-clause-gone
returns-else-i-len-clause-gone c start =
    let list = c.args.self.now.list.items in
    let i = c.started_before-i.result in
    let cell_is : to_z w32 (of_z w32 c.args.cell) ≡ c.args.cell = to_z-of_z w32 c.args.cell c.ranges.cell in
    let wide : to_z w64 (of_z w64 c.from.result) ≡ c.args.cell = omega (arith, ints, c.from.ensures, cell_is) in
    let parted = rw wide at c.started_before-i.ensures in
    let here = start_here list i c.args.cell none c.args.self.now.rises parted start in
    elim c.else-i-len.branch [
      | else-i-len-via-then-i-len+else-index-cell w ↦
          (let step = w.index.result.now in
          let step_is = ap (λ (s : Step). s.start) (w.index.ensures ∙ get_or_default list i step none here.0) in
          w.if-index-cell.false (ap (of_z w32) (step_is ∙ here.1)))
      | else-i-len-via-else-i-len w ↦ absurd (omega (arith, here.0, w.if-i-len.false, c.len.ensures))
    ]
