-- The one new start is the end of the zone.
use Rattle.std.proofs.Common.{◌≡◌, Some, inl, inr, w32, to_z, of_z, sym, ap, ◌∙◌, rules}
use Rattle.std.proofs.lemmas.Int.{to_z-of_z}
use Rattle.sdm_speed.proofs.steps.Steps.split_at.Goals as goal

pub returns-in-Some-clause-only : goal.returns-in-Some-clause-only
returns-in-Some-clause-only c x start =
    let cell_is : to_z w32 (of_z w32 c.in-Some.cell) ≡ c.in-Some.cell = to_z-of_z w32 c.in-Some.cell (search rules) in
    let end_is : c.args.end ≡ Some c.in-Some.cell = c.in-Some.is in
    elim (c.split.ensures.only x start) [
      | inl e ↦ inl (end_is ∙ ap Some (sym (e ∙ cell_is)))
      | inr rest ↦ inr rest
    ]
