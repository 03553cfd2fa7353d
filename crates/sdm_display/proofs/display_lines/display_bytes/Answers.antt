-- Each comma and the field after it lengthen the fields that are put, and a line feed ends them.
use Rattle.std.proofs.Common.{◌≡◌, [], ◌∷◌, ◌++◌, decimal, refl}
use Rattle.sdm_formats.specs.Text.{display_text}
use Rattle.sdm_report.proofs.Pieces.{IsJoined, more_fields}
use Rattle.sdm_display.proofs.ShownFields.{with_shown}
use Rattle.sdm_display.proofs.display_lines.display_bytes.Goals as goal

pub returns : goal.returns
unfolding display_text
returns c =
    let d = c.args.d.now in
    let time : IsJoined c.put_count.new.into
    (decimal d.time ∷ []) = record { is = rw (c.put_count.ensures.text, c.requires) refl } in
    let permitted_put : c.put_count-2.new.into ≡ c.byte.new.self
    ++ decimal d.permitted = rw (← c.from.ensures) c.put_count-2.ensures.text in
    let sbi_put : c.put_count-3.new.into ≡ c.byte-2.new.self
    ++ decimal d.sbi = rw (← c.from-2.ensures) c.put_count-3.ensures.text in
    let ebi_put : c.put_count-4.new.into ≡ c.byte-3.new.self
    ++ decimal d.ebi = rw (← c.from-3.ensures) c.put_count-4.ensures.text in
    let release_put : c.put_count-5.new.into ≡ c.byte-4.new.self
    ++ decimal d.release = rw (← c.from-4.ensures) c.put_count-5.ensures.text in
    let permitted = more_fields _ _ _ _ (decimal d.permitted) _ [] time c.byte.ensures permitted_put in
    let sbi = more_fields _ _ _ _ (decimal d.sbi) _ [] permitted c.byte-2.ensures sbi_put in
    let ebi = more_fields _ _ _ _ (decimal d.ebi) _ [] sbi c.byte-3.ensures ebi_put in
    let release = more_fields _ _ _ _ (decimal d.release) _ [] ebi c.byte-4.ensures release_put in
    let shown = with_shown _ _ _ _ _ d.shown release c.byte-5.ensures c.put_shown.ensures.text in
    rw (c.byte-6.ensures, shown.is) refl
