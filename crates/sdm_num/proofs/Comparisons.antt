-- What the tests of two whole numbers answer, and what their answers say of the numbers.
use Rattle.std.proofs.Common.{◌≡◌, ℤ, true, false, int_le, int_lt, ◌≤ℤ◌, ◌<ℤ◌, sym, arith, rules}
use Rattle.std.proofs.lemmas.Int.{ints}

pub le_is : (a b : ℤ) → a ≤ℤ b → int_le a b ≡ true
le_is a b h = sym (search (rules, ints))

pub not_le_is : (a b : ℤ) → b <ℤ a → int_le a b ≡ false
not_le_is a b h = sym (search (rules, ints))

pub lt_is : (a b : ℤ) → a <ℤ b → int_lt a b ≡ true
lt_is a b h = sym (search (rules, ints))

pub not_lt_is : (a b : ℤ) → b ≤ℤ a → int_lt a b ≡ false
not_lt_is a b h = sym (search (rules, ints))

pub le_of : (a b : ℤ) → int_le a b ≡ true → a ≤ℤ b
le_of a b h = grind (arith, ints)

pub not_le_of : (a b : ℤ) → int_le a b ≡ false → b <ℤ a
not_le_of a b h = grind (arith, ints)

pub lt_of : (a b : ℤ) → int_lt a b ≡ true → a <ℤ b
lt_of a b h = grind (arith, ints)

pub not_lt_of : (a b : ℤ) → int_lt a b ≡ false → b ≤ℤ a
not_lt_of a b h = grind (arith, ints)
