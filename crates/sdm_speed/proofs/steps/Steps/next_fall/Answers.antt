-- From the cell on, of the steps that start at it or before it only the last counts, and the others start past it. Each
-- index that parts them there is the one that the search begins at, and it ends behind the fall.
use Rattle.std.proofs.Common.{◌≡◌, ◌+ℤ◌, pos, Some, None, arith, w32, to_z, of_z}
use Rattle.std.proofs.lemmas.Int.{ints, to_z-of_z}
use Rattle.sdm_speed.proofs.StepLaws.{parted_behind, rest_later, rest_same}
use Rattle.sdm_speed.proofs.SplitLaws.{parted_earlier}
use Rattle.sdm_speed.proofs.FallLaws.{fall_from}
use Rattle.sdm_speed.proofs.steps.Steps.next_fall.Goals as goal

pub returns-in_default-clause-value : goal.returns-in_default-clause-value
returns-in_default-clause-value c =
    let v = c.args.self.now.before in
    let steps = c.args.self.now.list.items in
    let begun = c.begun_near-begun.result in
    let after = c.args.after in
    let after_is : to_z w32 (of_z w32 after) ≡ after = to_z-of_z w32 after c.ranges.after in
    let parted = rw after_is at c.begun_near-begun.ensures in
    let found = rw (c.speed_to.ensures, c.deref.ensures.value, c.in_default.is) at c.first_fall.ensures.value in
    fall_from _ _ after None (rest_same v steps begun after parted)
    (found after (rest_later v steps begun after parted c.args.self.now.rises))

pub returns-clause-value : goal.returns-clause-value
returns-clause-value c =
    let v = c.args.self.now.before in
    let steps = c.args.self.now.list.items in
    let begun = c.begun_near-begun.result in
    let after = c.args.after in
    let after_is : to_z w32 (of_z w32 after) ≡ after = to_z-of_z w32 after c.ranges.after in
    let parted = rw after_is at c.begun_near-begun.ensures in
    let found = rw (c.speed_to.ensures, c.deref.ensures.value, c.in-Some.is) at c.first_fall.ensures.value in
    fall_from _ _ after (Some c.in-Some.found.fall) (rest_same v steps begun after parted)
    (found after (rest_later v steps begun after parted c.args.self.now.rises))

pub returns-clause-further : goal.returns-clause-further
returns-clause-further c from parted =
    let steps = c.args.self.now.list.items in
    let begun = c.begun_near-begun.result in
    let after = c.args.after in
    let after_is : to_z w32 (of_z w32 after) ≡ after = to_z-of_z w32 after c.ranges.after in
    let here = rw after_is at c.begun_near-begun.ensures in
    let further = rw c.in-Some.is at c.first_fall.ensures.further in
    let same = parted_earlier steps (after +ℤ pos 1) (after +ℤ pos 1) from begun (omega (arith, ints)) parted here in
    omega (arith, same, further)

pub returns-clause-passed : goal.returns-clause-passed
returns-clause-passed c =
    let steps = c.args.self.now.list.items in
    let found = c.in-Some.found in
    let further = rw c.in-Some.is at c.first_fall.ensures.further in
    let bound = rw (c.in-Some.is, c.deref.ensures.value) at c.first_fall.ensures.bound in
    parted_behind steps found.begun found.fall.cell c.args.self.now.rises (omega (arith, further)) bound
    (λ d. rw (c.in-Some.is, c.deref.ensures.value) at (c.first_fall.ensures.cell d))
