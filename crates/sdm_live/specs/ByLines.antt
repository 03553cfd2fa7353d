-- What is due, in the words of lines (own).
use Rattle.std.specs.Prelude.{ℕ, List, [], ◌∷◌, ◌++◌, length, if◌then◌else◌, nat_le}
use Rattle.sdm_live.specs.Progress.{Rules, ends_line, longest_line}

-- what has begun of a line, before lines
abbrev pub begun : List ℕ → List (List ℕ) → List (List ℕ)
begun [] lines = lines
begun (b ∷ bs) lines = (b ∷ bs) ∷ lines

-- the lines of a text from one that has begun on, without their ends; an empty line is none
abbrev pub lines_after : List ℕ → List ℕ → List (List ℕ)
lines_after line [] = begun line []
lines_after line (c ∷ cs) = if ends_line c then begun line (lines_after [] cs) else lines_after (line ++ c ∷ []) cs

-- THE LINES of a text (own)
abbrev pub lines_of : List ℕ → List (List ℕ)
lines_of text = lines_after [] text

module _ {S : Type 0} (rules : Rules S) where
  -- the answers to lines, one to each, one after the other
  abbrev pub answers : S → List (List ℕ) → List ℕ
  answers state [] = []
  answers state (line ∷ lines) =
      if nat_le (length line) longest_line
      then (let after = rules.next state line in rules.told after ++ answers after lines)
      else rules.too_long ++ answers state lines
