-- The number that was read lies between two that are not below 0.
use Rattle.std.proofs.Common.{ℤ, pos, negsuc, refl, ap, ◌≤ℤ◌, ◌≡◌, Ok, to_z, of_z, w64, unsigned_abs, ◌∙◌, sym, arith}
use Rattle.std.proofs.Common.{rules}
use Rattle.std.proofs.lemmas.Int.{ints, to_z-of_z}
use Rattle.sdm_formats.specs.Numbers.{read_int}
use Rattle.sdm_text.proofs.numbers.natural_in.Goals as goal

not_below_0 : (z : ℤ) → pos 0 ≤ℤ z → z ≡ pos (unsigned_abs z)
not_below_0 (pos n) h = refl
not_below_0 (negsuc n) h = absurd (omega (arith, ints, h))

module _ (c : goal.In_ok-number) where
  -- the bounds are themselves in 64 bits: the least
  least : to_z w64 (of_z w64 c.from.result) ≡ pos c.args.least
  least = to_z-of_z w64 c.from.result (search (rules, ints)) ∙ c.from.ensures

  -- and the greatest
  greatest : to_z w64 (of_z w64 c.from-2.result) ≡ pos c.args.greatest
  greatest = to_z-of_z w64 c.from-2.result (search (rules, ints)) ∙ c.from-2.ensures

  -- so is the number that was read
  number : to_z w64 (of_z w64 c.in_ok-number.number) ≡ c.in_ok-number.number
  number = to_z-of_z w64 c.in_ok-number.number (search (rules, ints))

  -- it was read between these bounds
  was : read_int c.args.field.now (pos c.args.least) (pos c.args.greatest) ≡ Ok c.in_ok-number.number
  was = rw (← least, ← greatest) (sym c.read_int.ensures.value ∙ c.in_ok-number.was)

  bounds : (pos c.args.least ≤ℤ c.in_ok-number.number) × (c.in_ok-number.number ≤ℤ pos c.args.greatest)
  bounds = rw (← least, ← greatest) c.in_ok-number.ensures.range

pub overflow_cast-result : goal.overflow_cast-result
overflow_cast-result c = let b = bounds c in rw (number c) (search (rules, ints))

pub returns-clause-value : goal.returns-clause-value
returns-clause-value c = let b = bounds c in rw (number c) (was c ∙ ap Ok (not_below_0 _ (omega (arith, ints))))

pub returns-clause-range : goal.returns-clause-range
returns-clause-range c = let b = bounds c in rw (number c) (omega (arith, ints), omega (arith, ints))
