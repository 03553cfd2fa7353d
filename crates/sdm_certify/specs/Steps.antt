-- What the check of marks asks of one band, and of a whole list (own).
use Rattle.std.specs.Prelude.{◌≡◌, ℕ, ℤ, List, [], ◌∷◌, ◌≤◌, ◌≤ℤ◌}
use Rattle.sdm_rules.specs.declared.certificates.Mark.{Mark}
use Rattle.sdm_rules.specs.Certificates.{IsEnergyIn, TakesEnough, LeadTo}
use Rattle.sdm_rules.specs.Motion.{HasPart}
use Rattle.sdm_rules.specs.Slopes.{Slopes}

-- all cells on the way have one slope in the band, and with it the way takes enough
pub record TakesEnoughIn (on : Slopes) (band : ℕ) (x y : Mark) : Type 0 where
  pub slope : ℕ
  pub one_slope : (cell : ℤ) → HasPart 1 cell x.place y.place → on.slope band cell ≡ slope
  pub enough : TakesEnough slope x y

-- one mark and the next in a band that holds both energies
pub record IsNextIn (on : Slopes) (band : ℕ) (x y : Mark) : Type 0 where
  pub forward : x.place ≤ℤ y.place
  pub falls : y.energy ≤ x.energy
  pub from_band : IsEnergyIn on band x.energy
  pub to_band : IsEnergyIn on band y.energy
  pub takes : TakesEnoughIn on band x y

-- there are marks, which lead to the place
abbrev pub AreLeading : Slopes → ℤ → List Mark → Type 0
AreLeading on svl [] = ⊥
AreLeading on svl (x ∷ ys) = LeadTo on svl x ys
