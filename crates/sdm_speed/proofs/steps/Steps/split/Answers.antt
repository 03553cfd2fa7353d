-- The step is put where those that start before the cell end, with the speed that holds there.
use Rattle.std.proofs.Common.{◌≡◌, ◌<◌, ◌<ℤ◌, ◌≤ℤ◌, w32, w64, to_z, of_z}
use Rattle.std.proofs.Common.{length, get_or, sym, ap, ◌∙◌, arith, rules}
use Rattle.std.proofs.lemmas.Int.{ints, to_z-of_z, by_lt_z}
use Rattle.std.proofs.lemmas.List.{get_or_default}
use Rattle.sdm_speed.specs.declared.steps.Step.{Step}
use Rattle.sdm_speed.proofs.SplitLaws.{insert_same, insert_rising, insert_start, insert_keeps, insert_only}
use Rattle.sdm_speed.proofs.SplitLaws.{insert_parted, index_is_start}
use Rattle.sdm_speed.proofs.steps.Steps.split.Goals as goal
use Rattle.sdm_speed.proofs.steps.Steps.split.Goals.{else-i-len-via-then-i-len+else-index-cell}
use Rattle.sdm_speed.proofs.steps.Steps.split.Goals.{else-i-len-via-else-i-len}

pub returns-then-index-cell-clause-start : goal.returns-then-index-cell-clause-start
returns-then-index-cell-clause-start c =
    let step = c.index.result.now in
    let cell_is : to_z w32 (of_z w32 c.args.cell) ≡ c.args.cell = to_z-of_z w32 c.args.cell c.ranges.cell in
    let start_is : to_z w32 (of_z w32 step.start) ≡ step.start = to_z-of_z w32 step.start (search rules) in
    let here : step.start ≡ c.args.cell = sym start_is ∙ ap (to_z w32) c.if-index-cell.true ∙ cell_is in
    let whole = c.args.self.now.list.ok.0 in
    rw (← here, c.index.ensures) (index_is_start c.args.self.now.list.items c.started_before-i.result step
    (omega (arith, c.if-i-len.true, c.len.ensures)))

pub returns-clause-speeds : goal.returns-clause-speeds
returns-clause-speeds c cell =
    let list = c.args.self.now.list.items in
    let i = c.started_before-i.result in
    let cell_is : to_z w32 (of_z w32 c.args.cell) ≡ c.args.cell = to_z-of_z w32 c.args.cell c.ranges.cell in
    let wide : to_z w64 (of_z w64 c.from.result) ≡ c.args.cell = omega (arith, ints, c.from.ensures, cell_is) in
    let before = (rw wide at c.started_before-i.ensures).before in
    rw (c.insert_reserved.ensures.items, cell_is) (insert_same
    (record { start = c.args.cell; speed = c.speed_to-speed.result }) c.args.self.now.before list i cell
    c.speed_to-speed.ensures (λ k d l m. before k d l))

pub returns-clause-start : goal.returns-clause-start
returns-clause-start c =
    let cell_is : to_z w32 (of_z w32 c.args.cell) ≡ c.args.cell = to_z-of_z w32 c.args.cell c.ranges.cell in
    rw (c.insert_reserved.ensures.items, cell_is) (insert_start
    (record { start = c.args.cell; speed = c.speed_to-speed.result }) c.args.self.now.list.items
    c.started_before-i.result)

pub returns-clause-starts : goal.returns-clause-starts
returns-clause-starts c =
    rw c.insert_reserved.ensures.items (insert_keeps _ c.args.self.now.list.items c.started_before-i.result)

pub returns-clause-parted : goal.returns-clause-parted
returns-clause-parted c =
    let cell_is : to_z w32 (of_z w32 c.args.cell) ≡ c.args.cell = to_z-of_z w32 c.args.cell c.ranges.cell in
    let wide : to_z w64 (of_z w64 c.from.result) ≡ c.args.cell = omega (arith, ints, c.from.ensures, cell_is) in
    rw (c.insert_reserved.ensures.items, cell_is) (insert_parted
    (record { start = c.args.cell; speed = c.speed_to-speed.result }) c.args.self.now.list.items
    c.started_before-i.result (rw wide at c.started_before-i.ensures))

pub invariant_of-self : goal.invariant_of-self
invariant_of-self c =
    let list = c.args.self.now.list.items in
    let i = c.started_before-i.result in
    let whole = c.args.self.now.list.ok.0 in
    let cell_is : to_z w32 (of_z w32 c.args.cell) ≡ c.args.cell = to_z-of_z w32 c.args.cell c.ranges.cell in
    let wide : to_z w64 (of_z w64 c.from.result) ≡ c.args.cell = omega (arith, ints, c.from.ensures, cell_is) in
    let parted = rw wide at c.started_before-i.ensures in
    let past : (d : Step) → i < length list →
    c.args.cell <ℤ (get_or list i d).start = λ d known. elim c.else-i-len.branch [
      | else-i-len-via-then-i-len+else-index-cell w ↦
          (let at = w.index.result.now in
          let start_is = ap (λ (s : Step). s.start) (w.index.ensures ∙ get_or_default list i at d known) in
          let from = parted.from i d (omega arith) known in
          by_lt_z c.args.cell (get_or list i d).start
          (λ (lt : c.args.cell <ℤ (get_or list i d).start). lt)
          (λ (ge : (get_or list i d).start ≤ℤ c.args.cell). let here : at.start ≡ c.args.cell =
          omega (arith, ints) in absurd (w.if-index-cell.false (ap (of_z w32) here))))
      | else-i-len-via-else-i-len w ↦ absurd (omega (arith, w.if-i-len.false, c.len.ensures))
    ] in
    let step : Step = record { start = c.args.cell; speed = c.speed_to-speed.result } in
    let rises = insert_rising step list i c.args.self.now.rises (λ k d l m. parted.before k d l) past in
    record { rises = rw (c.insert_reserved.ensures.items, cell_is) rises }

pub returns-clause-only : goal.returns-clause-only
returns-clause-only c x start =
    let cell_is : to_z w32 (of_z w32 c.args.cell) ≡ c.args.cell = to_z-of_z w32 c.args.cell c.ranges.cell in
    insert_only (record { start = c.args.cell; speed = c.speed_to-speed.result }) c.args.self.now.list.items
    c.started_before-i.result x (rw (c.insert_reserved.ensures.items, cell_is) at start)
