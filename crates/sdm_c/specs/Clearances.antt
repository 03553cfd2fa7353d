-- What C receives as the first place that a reading is clear of (own).
use Rattle.std.specs.Prelude.{◌≡◌, ℕ, zero, suc, pos, Bool, Option, Some, None, option_map, unsigned_abs, ◌*ℤ◌, if◌then◌else◌}
use Rattle.sdm_num.specs.Readings.{OdometerReading}
use Rattle.sdm_num.specs.Units.{place_of_mm}
use Rattle.sdm_rules.specs.Cells.{place_of_cell}
use Rattle.sdm_rules.specs.Data.{TrainAndTrack}
use Rattle.sdm_rules.specs.Supervision.{Supervision}
use Rattle.sdm_row_laws.specs.Clearances.{Allowance, IsFirstClearOf, is_clear_of}
use Rattle.sdm_c.specs.declared.structs.AllowanceC.{AllowanceC}
use Rattle.sdm_c.specs.declared.structs.PlaceC.{PlaceC}
use Rattle.sdm_c.specs.declared.structs.ReadingC.{ReadingC}
use Rattle.sdm_c.specs.Codes.{place_in_c}
use Rattle.sdm_c.specs.Numbers.{allowance_from, reading_from}

-- the place in mm, or none, is the first one of the track that a reading is clear of with an allowance (own)
pub record IsClearPlace (d : TrainAndTrack) (r : ReadingC) (a : AllowanceC) (place : PlaceC) : Type 0 where
  pub found : Option ℕ
  pub told : place ≡ place_in_c (option_map (λ mm. pos mm) found)
  pub first : IsFirstClearOf (allowance_from a) d (reading_from r) found

-- ---- the same place as a value, for the fold over lists of calls

-- the first number from one on, of so many, of which something is so; else the one behind them (own)
unfoldable pub first_from : (ℕ → Bool) → ℕ → ℕ → ℕ
first_from is zero at = at
first_from is (suc more) at = if is at then at else first_from is more (suc at)

-- the first millimetre of the track that a reading is clear of; none where it isn't clear of the track's end (own)
unfoldable pub first_clear : Allowance → TrainAndTrack → OdometerReading → Option ℕ
first_clear a d r =
    if is_clear_of a d r (place_of_cell d.track.length_cm)
    then Some (first_from (λ mm. is_clear_of a d r (place_of_mm (pos mm)))
    (unsigned_abs (pos 10 *ℤ d.track.length_cm)) 0) else None

-- what C receives (own)
abbrev pub first_clear_in_c : Supervision → ReadingC → AllowanceC → PlaceC
first_clear_in_c s r a =
    place_in_c (option_map (λ mm. pos mm) (first_clear (allowance_from a) s.train_and_track (reading_from r)))
