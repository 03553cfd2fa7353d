-- The output of lines, line by line.
use Rattle.std.proofs.Common.{◌≡◌, ℕ, suc, List, [], ◌∷◌, inr, refl, ap, ◌∙◌}
use Rattle.sdm_formats.specs.declared.flat_rows.FlatRow.{FlatRow}
use Rattle.sdm_formats.specs.Flat.{FlatSupervision, flat_text, flat_output_from}
use Rattle.sdm_run.specs.Answers.{AreWholeLines}
use Rattle.sdm_run.specs.TakenLines.{IsAcceptedLine}
use Rattle.sdm_run.proofs.OutputLeft.{line_some, text_and}

-- the output of lines of which the first is accepted
pub accepted_output : (n : ℕ) (s t : FlatSupervision) (lines more : List (List ℕ)) (bytes : List ℕ) (row : FlatRow) →
    lines ≡ bytes ∷ more → IsAcceptedLine s t bytes row →
    flat_output_from n s lines ≡ text_and (flat_text row) (flat_output_from (suc n) t more)
accepted_output n s t lines more bytes row first h =
    ap (flat_output_from n s) first ∙ rw (h.read, h.in_time, h.row_is, h.after)

-- the text of a row ends with a line feed
pub row_is_line : (row : FlatRow) → AreWholeLines (flat_text row)
unfolding flat_text
row_is_line row = inr (_, refl)

-- so it isn't empty
pub row_some : (row : FlatRow) → flat_text row ≡ [] → ⊥
unfolding flat_text
row_some row = line_some _
