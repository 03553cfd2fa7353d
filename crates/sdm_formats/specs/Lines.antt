-- The lines of a text, and the fields of a line (own).
use Rattle.std.specs.Prelude.{ℕ, List, [], ◌∷◌, map, ◌==◌, if◌then◌else◌}
use Rattle.std.specs.List.{onto_first, slice_split}
use Rattle.std.specs.Io.BufRead.{strip_last}

-- the lines of a text, each with the LF that ends it; the last may do without one, and an empty text has no line
abbrev pub ended_lines : List ℕ → List (List ℕ)
ended_lines [] = []
ended_lines (c ∷ cs) = if c == 10 then (c ∷ []) ∷ ended_lines cs else onto_first c (ended_lines cs)

-- the lines of a text, without the LF that ends each
abbrev pub lines_of : List ℕ → List (List ℕ)
lines_of text = map (strip_last 10) (ended_lines text)

-- the fields of a line, with commas between them; an empty line has one, which is empty
abbrev pub comma_fields : List ℕ → List (List ℕ)
comma_fields line = slice_split (λ c. c == 44) line
