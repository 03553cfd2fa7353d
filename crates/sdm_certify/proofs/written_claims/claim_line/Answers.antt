-- Each field lengthens those that are put, and a line feed ends them.
use Rattle.std.proofs.Common.{◌≡◌, ◌∷◌, [], ◌∙◌, codes, decimal, to_z, of_z, w64, refl, rules}
use Rattle.std.specs.Fmt.{signed_decimal}
use Rattle.std.proofs.lemmas.Int.{ints, to_z-of_z}
use Rattle.sdm_report.proofs.Pieces.{IsJoined}
use Rattle.sdm_certify.specs.WrittenLines.{claim_text}
use Rattle.sdm_certify.proofs.AddedFields.{field_added}
use Rattle.sdm_certify.proofs.LinesBack.{claim_back}
use Rattle.sdm_certify.proofs.written_claims.claim_line.Goals as goal

pub returns-clause-text : goal.returns-clause-text
unfolding claim_text
returns-clause-text c =
    let claim = c.args.claim.now in
    let front : to_z w64 (of_z w64 c.grains.result) ≡ claim.front =
    to_z-of_z w64 c.grains.result (search (rules, ints)) ∙ c.grains.ensures.value in
    let svl : to_z w64 (of_z w64 c.grains-2.result) ≡ claim.svl =
    to_z-of_z w64 c.grains-2.result (search (rules, ints)) ∙ c.grains-2.ensures.value in
    let word : IsJoined c.text.new.self (codes "claim" ∷ []) =
    record { is = rw (c.text.ensures, c.requires.empty) refl } in
    let time = field_added _ _ _ (decimal claim.time) _ word c.add_count.ensures.text in
    let front = field_added _ _ _ (signed_decimal claim.front) _ time (rw front at c.add_number.ensures.text) in
    let speed = field_added _ _ _ (decimal claim.speed) _ front
    (rw c.notches.ensures.value at c.add_count-2.ensures.text) in
    let accel1 = field_added _ _ _ (decimal claim.accel1) _ speed (rw c.from.ensures at c.add_count-3.ensures.text) in
    let accel2 = field_added _ _ _ (decimal claim.accel2) _ accel1
    (rw c.from-2.ensures at c.add_count-4.ensures.text) in
    let traction = field_added _ _ _ (decimal claim.traction) _ accel2 c.add_count-5.ensures.text in
    let berem = field_added _ _ _ (decimal claim.berem) _ traction c.add_count-6.ensures.text in
    let svl = field_added _ _ _ (signed_decimal claim.svl) _ berem (rw svl at c.add_number-2.ensures.text) in
    let marks = field_added _ _ _ (decimal c.args.marks) _ svl c.add_count-7.ensures.text in
    rw (c.byte.ensures, marks.is) refl

pub returns-clause-read_back : goal.returns-clause-read_back
returns-clause-read_back c = λ range some most.
    rw (returns-clause-text c) (claim_back c.args.claim.now c.args.marks range some most)
