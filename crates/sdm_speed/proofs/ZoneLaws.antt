-- The lowest limit of zones in a cell, in whatever order they are taken.
use Rattle.std.proofs.Common.{◌≡◌, ℕ, ℤ, pos, negsuc, List, [], ◌∷◌, ◌++◌, Bool, true, false, if◌then◌else◌, min, ◌+ℤ◌}
use Rattle.std.proofs.Common.{◌≤ℤ◌, refl, sym, ap, ◌∙◌, arith}
use Rattle.std.specs.Int.{int_gap}
use Rattle.std.proofs.lemmas.Int.{ints}
use Rattle.sdm_rules.specs.Profile.{Zone, covers, capped, lowest_limit}

-- ---- one cell

-- two caps may change places
either_first : (a b : Bool) (k m n : ℕ) → (if a then min k (if b then min m n else n) else if b then min m n else n)
    ≡ (if b then min m (if a then min k n else n) else if a then min k n else n)
either_first true true k m n = omega arith
either_first true false k m n = refl
either_first false true k m n = refl
either_first false false k m n = refl

-- a zone that does not cover the cell
pub not_capped : (c : ℤ) (z : Zone) (n : ℕ) → covers c z ≡ false → capped c z n ≡ n
not_capped c z n off = rw off refl

-- a zone that covers it
pub is_capped : (c : ℤ) (z : Zone) (n : ℕ) → covers c z ≡ true → capped c z n ≡ min z.limit n
is_capped c z n on = rw on refl

-- it does not matter which of two zones is taken first
pub capped_in_any_order : (c : ℤ) (y z : Zone) (n : ℕ) → capped c y (capped c z n) ≡ capped c z (capped c y n)
capped_in_any_order c y z n = either_first (covers c y) (covers c z) y.limit z.limit n

-- the last zones may be taken first
pub lowest_limit-append : (top : ℕ) (c : ℤ) (ys zs : List Zone) →
    lowest_limit top c (ys ++ zs) ≡ lowest_limit (lowest_limit top c zs) c ys
lowest_limit-append top c [] zs = refl
lowest_limit-append top c (y ∷ ys) zs = ap (capped c y) (lowest_limit-append top c ys zs)

-- one zone more at the end
pub lowest_limit-push : (top : ℕ) (c : ℤ) (zs : List Zone) (z : Zone) →
    lowest_limit top c (zs ++ z ∷ []) ≡ capped c z (lowest_limit top c zs)
lowest_limit-push top c [] z = refl
lowest_limit-push top c (y ∷ ys) z =
    ap (capped c y) (lowest_limit-push top c ys z) ∙ capped_in_any_order c y z (lowest_limit top c ys)

-- the distance from a cell to a later one
pub int_gap_is : (from to : ℤ) → from ≤ℤ to → to ≡ from +ℤ pos (int_gap from to)
int_gap_is (pos a) (pos b) le = omega (arith, ints)
int_gap_is (pos a) (negsuc b) le = absurd (omega (arith, ints))
int_gap_is (negsuc a) (pos b) le = omega (arith, ints)
int_gap_is (negsuc a) (negsuc b) le = omega (arith, ints)

-- ---- zones after zones

-- a cap before all zones is one after them
pub capped_first : (c : ℤ) (y : Zone) (n : ℕ) (zs : List Zone) →
    lowest_limit (capped c y n) c zs ≡ capped c y (lowest_limit n c zs)
capped_first c y n [] = refl
capped_first c y n (z ∷ zs) = ap (capped c z) (capped_first c y n zs) ∙ capped_in_any_order c z y (lowest_limit n c zs)

-- the first ones may be taken first
pub lowest_limit-after : (top : ℕ) (c : ℤ) (ys zs : List Zone) →
    lowest_limit top c (ys ++ zs) ≡ lowest_limit (lowest_limit top c ys) c zs
lowest_limit-after top c [] zs = refl
lowest_limit-after top c (y ∷ ys) zs =
    ap (capped c y) (lowest_limit-after top c ys zs) ∙ sym (capped_first c y (lowest_limit top c ys) zs)
