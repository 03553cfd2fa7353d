-- A line that isn't read to its end has a field.
use Rattle.std.proofs.Common.{◌≡◌, Bool, true, false, List, ℕ, [], sym, cond}
use Rattle.sdm_formats.specs.Lines.{comma_fields}
use Rattle.sdm_certify.specs.Fields.{is_end}
use Rattle.sdm_certify.proofs.FieldsLeft.{line_has_fields, none_left}
use Rattle.sdm_certify.proofs.fields.Fields.is_end.Goals as goal

by_end : (b : Bool) (line : List ℕ) → b ≡ is_end (cond b [] (comma_fields line))
by_end true line = sym none_left
by_end false line = sym (line_has_fields line)

pub returns : goal.returns
returns c = rw (← c.self.view_is) (by_end c.self.inside.is_end c.self.inside.rest.now)
