-- Lists of what stands at the falls of a profile (own).
use Rattle.std.specs.Prelude.{ℕ, ℤ, List, [], ◌∷◌}
use Rattle.sdm_rules.specs.declared.targets.Fall.{Fall}
use Rattle.sdm_rules.specs.Targets.{IsNextFall, HasNoFall}

-- what stands at the falls past the start of a cell: the first at the next fall past it, each at the next fall past
-- that of the one before it, and past the last there is none. So each cell past it where the profile falls has one,
-- and they are in order.
abbrev pub AreAtFalls : {A : Type 0} → (A → Fall) → (ℤ → ℕ) → ℤ → List A → Type 0
AreAtFalls fall profile after [] = HasNoFall profile after
AreAtFalls fall profile after (x ∷ xs) = IsNextFall profile after (fall x) × AreAtFalls fall profile (fall x).cell xs
