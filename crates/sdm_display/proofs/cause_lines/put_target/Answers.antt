-- A word, and four fields with spaces between them.
use Rattle.std.proofs.Common.{◌≡◌, ◌++◌, decimal, ap, ◌∙◌, codes, rules, w64}
use Rattle.std.specs.Fmt.{signed_decimal}
use Rattle.std.proofs.lemmas.Int.{ints, to_z-of_z}
use Rattle.sdm_display.proofs.CausePieces.{spaced}
use Rattle.sdm_display.proofs.cause_lines.put_target.Goals as goal

pub returns-clause-text : goal.returns-clause-text
returns-clause-text c =
    let t = c.args.target in
    let letter = c.byte.ensures ∙ ap (λ x. c.text.new.self ++ x) c.letter_of.ensures in
    let place : c.put_number.new.into ≡ c.byte-2.new.self ++ signed_decimal t.place =
    c.put_number.ensures.text
    ∙ ap (λ z. c.byte-2.new.self ++ signed_decimal z) (to_z-of_z w64 t.place (search (rules, ints))) in
    let speed : c.put_count.new.into ≡ c.byte-3.new.self
    ++ decimal t.speed = rw (← c.from.ensures) c.put_count.ensures.text in
    let limit : c.put_number-2.new.into ≡ c.byte-4.new.self ++ signed_decimal t.limit =
    c.put_number-2.ensures.text
    ∙ ap (λ z. c.byte-4.new.self ++ signed_decimal z) (to_z-of_z w64 t.limit (search (rules, ints))) in
    spaced _ _ _ _ _ _ _ _ _ (codes "target ") _ _ _ _ c.text.ensures letter c.byte-2.ensures place c.byte-3.ensures
    speed c.byte-4.ensures limit
