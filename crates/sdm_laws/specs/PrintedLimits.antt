-- What the printed limits of a row say of the exact ones, as a statement over an accepted supervision state (own).
use Rattle.std.specs.Prelude.{◌≡◌, ℤ, pos, ◌*◌, ◌≤◌, ◌+ℤ◌, Contains, Option, Some, None}
use Rattle.sdm_num.specs.Units.{millimetre, place_of_mm}
use Rattle.sdm_num.specs.Fractions.{Fraction, IsAtMost, IsBefore, whole}
use Rattle.sdm_num.specs.Readings.{OdometerReading, estimate_of}
use Rattle.sdm_rules.specs.declared.targets.Target.{Target}
use Rattle.sdm_rules.specs.Targets.{target_speed}
use Rattle.sdm_rules.specs.Limits.{exact_places, limits_of}
use Rattle.sdm_rules.specs.Triggers.{Situation}
use Rattle.sdm_rules.specs.Supervision.{Supervision, situation_of, row_of}
use Rattle.sdm_rules.specs.Opening.{IsOpen}

-- the limit of the target may be printed: the target is one of the situation, its speed is at most the train's, and it
-- has the limit
pub record IsPrintedOf (now : Situation) (limit : Target → Option Fraction) (t : Target) (x : Fraction) : Type 0 where
  pub there : Contains now.targets t
  pub slow : target_speed t ≤ now.speed
  pub has : limit t ≡ Some x

-- a printed limit in mm is at or before that of each target that it is printed of, and less than two millimetres
-- before one of them
pub record IsPrintedAt (now : Situation) (limit : Target → Option Fraction) (mm : ℤ) : Type 0 where
  pub not_past : (t : Target) (x : Fraction) → IsPrintedOf now limit t x → IsAtMost (whole (place_of_mm mm)) x
  pub target : Target
  pub place : Fraction
  pub printed : IsPrintedOf now limit target place
  pub near : IsBefore place (whole (place_of_mm mm +ℤ pos (2 * millimetre)))

-- a limit is printed where some target has it, and none where no target does
abbrev pub IsPrinted : Situation → (Target → Option Fraction) → Option ℤ → Type 0
IsPrinted now limit (Some mm) = IsPrintedAt now limit mm
IsPrinted now limit None = (t : Target) (x : Fraction) → IsPrintedOf now limit t x → ⊥

-- the printed limits of a row stand for the exact ones
pub record ArePrinted (s : Supervision) (r : OdometerReading) : Type 0 where
  pub ebi : IsPrinted (situation_of s r) (λ t. (limits_of exact_places s.train_and_track (estimate_of r) t).ebi)
      (row_of s r).ebi
  pub sbi : IsPrinted (situation_of s r) (λ t. Some (limits_of exact_places s.train_and_track (estimate_of r) t).sbi)
      (row_of s r).sbi
  pub warning : IsPrinted (situation_of s r)
      (λ t. Some (limits_of exact_places s.train_and_track (estimate_of r) t).warning) (row_of s r).warning
  pub permitted : IsPrinted (situation_of s r)
      (λ t. Some (limits_of exact_places s.train_and_track (estimate_of r) t).permitted) (row_of s r).permitted
  pub indication : IsPrinted (situation_of s r)
      (λ t. Some (limits_of exact_places s.train_and_track (estimate_of r) t).indication) (row_of s r).indication

-- each printed limit is at most the exact one and less than two millimetres before it
abbrev pub LawOfPrintedLimits : Type 0
LawOfPrintedLimits = (s : Supervision) (r : OdometerReading) → IsOpen s → ArePrinted s r
