-- What lies between two numbers that fit a width fits it too, whatever their signs.
use Rattle.std.proofs.Common.{ℤ, pos, negsuc, ◌≤ℤ◌, arith}
use Rattle.std.proofs.lemmas.Int.{ints}
use mir.Syntax.{Width}
use mir.Val.{SFits}

pub between_fits : (w : Width) (lo hi n : ℤ) → SFits w lo → SFits w hi → lo ≤ℤ n → n ≤ℤ hi → SFits w n
between_fits w lo (pos h) (pos n) low high above below = record { sfits = omega (arith, ints, high.sfits, below) }
between_fits w lo (negsuc h) (pos n) low high above below = absurd (omega (arith, ints, below))
between_fits w (pos l) hi (negsuc n) low high above below = absurd (omega (arith, ints, above))
between_fits w (negsuc l) hi (negsuc n) low high above below = record { sfits = omega (arith, ints, low.sfits, above) }
