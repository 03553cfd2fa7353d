-- The energy that a distance takes in one band (own). This serves proofs and certificates: no definition of the profile
-- cites it.
use Rattle.std.specs.Prelude.{ℕ, zero, suc, ℤ, pos, ◌+◌, ◌+ℤ◌}
use Rattle.sdm_rules.specs.Slopes.{Slopes}
use Rattle.sdm_rules.specs.Curves.{cell_at}

-- f 0 + .. + f (d - 1)
unfoldable pub total : (ℕ → ℕ) → ℕ → ℕ
total f zero = 0
total f (suc d) = total f d + f d

-- the sum of the slopes of the `d` steps from `p` on, where a grain has `m` steps; 27 times it is the energy of the
-- distance
abbrev pub energy : Slopes → ℕ → ℕ → ℤ → ℕ → ℕ
energy on band m p d = total (λ k. on.slope band (cell_at m (p +ℤ pos k))) d
