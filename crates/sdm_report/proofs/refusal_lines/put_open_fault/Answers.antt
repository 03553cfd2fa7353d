-- The pieces in their order are the text.
use Rattle.std.proofs.Common.{◌≡◌, to_z, of_z, w32, rules}
use Rattle.std.proofs.lemmas.Int.{ints, to_z-of_z}
use Rattle.sdm_formats.specs.FaultLines.{open_text}
use Rattle.sdm_report.proofs.Pieces.{three_pieces}
use Rattle.sdm_report.proofs.refusal_lines.put_open_fault.Goals as goal

pub returns-in-TooWeak-clause-text : goal.returns-in-TooWeak-clause-text
unfolding open_text
returns-in-TooWeak-clause-text c =
    let same : to_z w32 (of_z w32 c.in-TooWeak.cell)
    ≡ c.in-TooWeak.cell = to_z-of_z w32 c.in-TooWeak.cell (search (rules, ints)) in
    rw (c.in-TooWeak.is, ← same)
    (three_pieces _ _ _ _ _ _ _ c.put_band.ensures.text c.text.ensures c.put_cell.ensures.text)

pub returns-in-TooVaried-clause-text : goal.returns-in-TooVaried-clause-text
unfolding open_text
returns-in-TooVaried-clause-text c = rw c.in-TooVaried.is c.put_band-in-TooVaried.ensures.text
