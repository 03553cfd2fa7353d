-- Each field lengthens those that are put, and a line feed ends them; the line is read as the mark.
use Rattle.std.proofs.Common.{◌≡◌, pos, negsuc, ◌∷◌, [], codes, decimal, to_z, of_z, w64, refl, arith}
use Rattle.std.specs.Fmt.{signed_decimal}
use Rattle.std.proofs.lemmas.Int.{ints, to_z-of_z}
use Rattle.sdm_text.proofs.Between.{between_fits}
use Rattle.sdm_report.proofs.Pieces.{IsJoined}
use Rattle.sdm_certify.specs.WrittenLines.{mark_text}
use Rattle.sdm_certify.proofs.AddedFields.{field_added}
use Rattle.sdm_certify.proofs.LinesBack.{mark_back}
use Rattle.sdm_certify.proofs.written_claims.mark_line.Goals as goal

pub returns-clause-read_back : goal.returns-clause-read_back
unfolding mark_text
returns-clause-read_back c = λ range.
    let mark = c.args.mark.now in
    let same : to_z w64 (of_z w64 mark.place) ≡ mark.place = to_z-of_z w64 mark.place (between_fits w64
    (negsuc 999_999_999_999_999_998) (pos 999_999_999_999_999_999) mark.place
    (record { sfits = omega arith }) (record { sfits = omega arith })
    (omega (arith, ints, range.behind)) (omega (arith, ints, range.ahead))) in
    let word : IsJoined c.text.new.self (codes "mark" ∷ []) =
    record { is = rw (c.text.ensures, c.requires.empty) refl } in
    let place = field_added _ _ _ (signed_decimal mark.place) _ word (rw same at c.add_number.ensures.text) in
    let energy = field_added _ _ _ (decimal mark.energy) _ place c.add_wide.ensures.text in
    let text : c.byte.new.self ≡ mark_text mark = rw (c.byte.ensures, energy.is) refl in
    rw text (mark_back mark range)
