-- A step starts at the cell or before it, if there is one, and the next one past it; or the steps are searched.
use Rattle.std.proofs.Common.{◌≡◌, ◌+ℤ◌, ◌<◌, ◌≤◌, ◌-◌, ◌≤ℤ◌, ◌<ℤ◌, pos, length, get_or, w32, w64, to_z, of_z, subst, ◌∙◌}
use Rattle.std.proofs.Common.{sym, arith, rules}
use Rattle.std.proofs.lemmas.Int.{ints, to_z-of_z}
use Rattle.std.proofs.lemmas.List.{get_or_default}
use Rattle.sdm_num.proofs.Comparisons.{le_of, lt_of}
use Rattle.sdm_speed.specs.declared.steps.Step.{Step}
use Rattle.sdm_speed.proofs.StepLaws.{parted_between}
use Rattle.sdm_speed.proofs.steps.Steps.begun_near.Goals as goal
use Rattle.sdm_speed.proofs.steps.Steps.begun_near.Goals.{then-near-eq0, else-near-eq0}
use Rattle.sdm_speed.proofs.steps.Steps.begun_near.Goals.{then-near-len-2, else-near-len-2}

pub returns-then-after-index : goal.returns-then-after-index
returns-then-after-index c =
    let steps = c.args.self.now.list.items in
    let near = c.args.near in
    let after = c.args.after in
    let after_is : to_z w32 (of_z w32 after) ≡ after = to_z-of_z w32 after c.ranges.after in
    let begun : (d : Step) → 1 ≤ near → (get_or steps (near - 1) d).start ≤ℤ after = λ d some.
    elim c.if-near-eq0.branch [
      | then-near-eq0 w ↦ absurd (omega (arith, w.if-near-eq0.true))
      | else-near-eq0 w ↦ (let one = w.index.result.now in
          let one_is : to_z w32 (of_z w32 one.start) ≡ one.start = to_z-of_z w32 one.start (search rules) in
          subst (λ (s : Step). s.start ≤ℤ after) (w.index.ensures ∙ get_or_default steps (near - 1) one d (omega arith))
          (le_of _ _ (rw (one_is, after_is) at (sym w.value-is ∙ c.if-index-after.true))))
    ] in
    let later : (d : Step) → near < length steps → after <ℤ (get_or steps near d).start = λ d known.
    elim c.if-near-len-2.branch [
      | then-near-len-2 w ↦ absurd (omega (arith, w.if-near-len-2.true, c.len-then-index-after.ensures))
      | else-near-len-2 w ↦ (let next = w.index-else-near-len-2.result.now in
          let next_is : to_z w32 (of_z w32 next.start) ≡ next.start = to_z-of_z w32 next.start (search rules) in
          subst (λ (s : Step). after <ℤ s.start) (w.index-else-near-len-2.ensures ∙ get_or_default steps near next d known)
          (lt_of _ _ (rw (after_is, next_is) at (sym w.value-is ∙ c.if-after-index.true))))
    ] in
    parted_between steps near after c.args.self.now.rises (omega (arith, c.if-near-len.true, c.len.ensures)) begun later

pub returns : goal.returns
returns c =
    let after = c.args.after in
    let after_is : to_z w32 (of_z w32 after) ≡ after = to_z-of_z w32 after c.ranges.after in
    let wide : to_z w64 (of_z w64 c.from.result) ≡ after = omega (arith, ints, c.from.ensures, after_is) in
    let next : to_z w64 (of_z w64 (after +ℤ pos 1)) ≡ after +ℤ pos 1 = omega (arith, ints) in
    rw (wide, next) at c.started_before.ensures
