-- Each comma and the field after it lengthen the fields that are put, and a line feed ends them.
use Rattle.std.proofs.Common.{◌≡◌, [], ◌∷◌, ◌++◌, ◌∙◌, decimal, refl, ap, arith, rules, List, ℕ}
use Rattle.std.proofs.lemmas.Grind.{common_steps}
use Rattle.std.proofs.lemmas.Int.{ints, to_z-of_z}
use Rattle.sdm_formats.specs.Text.{row_text, flag_text, state_text, status_text, place_text}
use Rattle.sdm_report.proofs.Pieces.{IsJoined, flag_digit, more_fields, number_is_short}
use Rattle.sdm_report.proofs.row_lines.row_bytes.Goals as goal
use Rattle.sdm_report.proofs.row_lines.row_bytes.Goals.{in-C, in-T, in-R, in-N, in-I, in-O, in-W, in-X}

pub number-requires : goal.number-requires
number-requires c = grind (arith, common_steps, number_is_short c.from.result (search (rules, ints)))

pub number-requires-2 : goal.number-requires-2
number-requires-2 c = grind (arith, common_steps, number_is_short c.from-6.result (search (rules, ints)))

pub returns : goal.returns
unfolding row_text
returns c =
    let r = c.args.row.now in
    let time_put : c.number.new.self ≡ decimal r.time = grind (arith, to_z-of_z, common_steps) in
    let time : IsJoined c.number.new.self
    (decimal r.time ∷ []) = record { is = time_put } in
    let state_put : c.byte-2.new.self ≡ c.byte.new.self ++ state_text r.state = elim c.match-row.branch [
      | in-C w ↦ grind (arith, common_steps)
      | in-T w ↦ grind (arith, common_steps)
      | in-R w ↦ grind (arith, common_steps)
    ] in
    let status_put : c.byte-4.new.self ≡ c.byte-3.new.self ++ status_text r.held.status = elim c.match-row-2.branch [
      | in-N w ↦ grind (arith, common_steps)
      | in-I w ↦ grind (arith, common_steps)
      | in-O w ↦ grind (arith, common_steps)
      | in-W w ↦ grind (arith, common_steps)
      | in-X w ↦ grind (arith, common_steps)
    ] in
    let tco_put : c.byte-6.new.self ≡ c.byte-5.new.self ++ flag_text r.held.tco =
    c.byte-6.ensures ∙ ap (λ (t : List ℕ). c.byte-5.new.self ++ t) (flag_digit _ _ c.from-2.ensures) in
    let sb_put : c.byte-8.new.self ≡ c.byte-7.new.self ++ flag_text r.held.sb =
    c.byte-8.ensures ∙ ap (λ (t : List ℕ). c.byte-7.new.self ++ t) (flag_digit _ _ c.from-3.ensures) in
    let eb_put : c.byte-10.new.self ≡ c.byte-9.new.self ++ flag_text r.held.eb =
    c.byte-10.ensures ∙ ap (λ (t : List ℕ). c.byte-9.new.self ++ t) (flag_digit _ _ c.from-4.ensures) in
    let covered_put : c.byte-12.new.self ≡ c.byte-11.new.self ++ flag_text r.covered =
    c.byte-12.ensures ∙ ap (λ (t : List ℕ). c.byte-11.new.self ++ t) (flag_digit _ _ c.from-5.ensures) in
    let ceiling_put : c.number-2.new.self ≡ c.byte-13.new.self
    ++ decimal r.ceiling = grind (arith, to_z-of_z, common_steps) in
    let state = more_fields _ _ _ _ (state_text r.state) _ [] time c.byte.ensures state_put in
    let status = more_fields _ _ _ _ (status_text r.held.status) _ [] state c.byte-3.ensures status_put in
    let tco = more_fields _ _ _ _ (flag_text r.held.tco) _ [] status c.byte-5.ensures tco_put in
    let sb = more_fields _ _ _ _ (flag_text r.held.sb) _ [] tco c.byte-7.ensures sb_put in
    let eb = more_fields _ _ _ _ (flag_text r.held.eb) _ [] sb c.byte-9.ensures eb_put in
    let covered = more_fields _ _ _ _ (flag_text r.covered) _ [] eb c.byte-11.ensures covered_put in
    let ceiling = more_fields _ _ _ _ (decimal r.ceiling) _ [] covered c.byte-13.ensures ceiling_put in
    let ebi = more_fields _ _ _ _ (place_text r.ebi) _ [] ceiling c.byte-14.ensures c.put_place.ensures.text in
    let sbi = more_fields _ _ _ _ (place_text r.sbi) _ [] ebi c.byte-15.ensures c.put_place-2.ensures.text in
    let warning = more_fields _ _ _ _ (place_text r.warning) _ [] sbi c.byte-16.ensures c.put_place-3.ensures.text in
    let permitted = more_fields _ _ _ _ (place_text r.permitted) _ [] warning c.byte-17.ensures
    c.put_place-4.ensures.text in
    let indication = more_fields _ _ _ _ (place_text r.indication) _ [] permitted c.byte-18.ensures
    c.put_place-5.ensures.text in
    rw (c.byte-19.ensures, indication.is) refl
