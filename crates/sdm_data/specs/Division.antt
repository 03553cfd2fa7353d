-- How an input is divided: the data part, the dividing line, and the records (own).
use Rattle.std.specs.Prelude.{ℕ, suc, Bool, ◌||◌, List, Option, codes, length, option_map, position, take}
use Rattle.std.specs.List.{concat}
use Rattle.std.specs.Str.{bytes_eq}
use Rattle.sdm_formats.specs.Lines.{ended_lines}

-- a dividing line: `%%`, ended by LF, by CR and LF, or by the end of the input
abbrev pub is_dividing_line : List ℕ → Bool
is_dividing_line line = bytes_eq line (codes "%%\n") || bytes_eq line (codes "%%\r\n") || bytes_eq line (codes "%%")

-- the offset after the first `k` lines
abbrev pub offset_after : ℕ → List (List ℕ) → ℕ
offset_after k lines = length (concat (take k lines))

-- Where the data part of an input ends, and where its records begin: about the first dividing line.
unfoldable pub divide : List ℕ → Option (ℕ × ℕ)
divide input =
    let lines = ended_lines input in
    option_map (λ k. (offset_after k lines, offset_after (suc k) lines)) (position is_dividing_line lines)
