-- What callers may rely on of all accepted national values: no rule is broken, and what follows for the numbers (own).
use Rattle.std.specs.Prelude.{◌≡◌, pos, ◌≤ℤ◌, None}
use Rattle.sdm_rules.specs.declared.data.NationalFields.{NationalFields}
use Rattle.sdm_rules.specs.Ranges.{national_fault}

-- accepted national values: the ranges of their numbers
pub record IsNational (n : NationalFields) : Type 0 where
  pub avadh : (pos 0 ≤ℤ n.avadh) × (n.avadh ≤ℤ pos 20)  -- twentieths
  pub adhesion_max : (pos 1 ≤ℤ n.adhesion_max) × (n.adhesion_max ≤ℤ pos 400)  -- cm/s²
  pub no_fault : national_fault n ≡ None
