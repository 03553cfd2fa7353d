-- Where a speed profile falls: where it falls with no restriction in force, or where one begins (own).
use Rattle.std.specs.Prelude.{◌≡◌, ◌⊎◌, ℕ, ℤ, pos, Bool, true, ◌&&◌, ◌==◌, List}
use Rattle.std.specs.FinMap as finite
use Rattle.std.specs.List.{list_any}
use Rattle.std.specs.Ordering.{int_eq}
use Rattle.sdm_rules.specs.declared.restrictions.Restriction.{Restriction}
use Rattle.sdm_rules.specs.declared.targets.Fall.{Fall}
use Rattle.sdm_rules.specs.Targets.{is_fall}
use Rattle.sdm_speed.specs.Profiles.{ProfileData, static_of}

-- the profile falls at the cell, to this speed in km/h
pub record FallsTo (profile : ℤ → ℕ) (cell : ℤ) (speed : ℕ) : Type 0 where
  pub falls : is_fall profile cell ≡ true
  pub to : profile cell ≡ speed

-- a restriction has this speed in km/h and starts at the cell
abbrev pub is_restriction_at : ℤ → ℕ → Restriction → Bool
is_restriction_at cell speed r = int_eq cell (pos r.start) && (r.speed == speed)

-- a restriction of this speed in km/h starts at the cell
abbrev pub has_restriction : ℤ → ℕ → List Restriction → Bool
has_restriction cell speed restrictions = list_any (is_restriction_at cell speed) restrictions

-- the profile falls to the same speed at the cell with no restriction in force, or one of this speed starts there
abbrev pub IsZoneStart : ProfileData → Fall → Type 0
IsZoneStart p fall =
    FallsTo (static_of p) fall.cell fall.speed
    ⊎ (has_restriction fall.cell fall.speed (finite.values p.restrictions) ≡ true)
