-- The rows of a drive: none has its front end past the SvL, so how far the SvL was at least ahead is not negative.
use Rattle.std.proofs.Common.{ℕ, ℤ, pos, List, [], ◌∷◌, suc, zero, ◌-ℤ◌, ◌≤ℤ◌, map, arith}
use Rattle.std.specs.Prelude.{fold}
use Rattle.std.specs.Int.{int_min}
use Rattle.std.specs.List.{AllByRecursion}
use Rattle.std.proofs.lemmas.Int.{ints, clamps}
use Rattle.std.proofs.lemmas.List.Elements.{All-from_recursion}
use Rattle.sdm_num.specs.Units.{millimetre}
use Rattle.sdm_num.specs.Bounds.{mm_below}
use Rattle.sdm_num.proofs.Floors.{floor_high}
use Rattle.sdm_rules.specs.Cells.{place_of_cell}
use Rattle.sdm_drive.specs.declared.rows.DriveRow.{DriveRow}
use Rattle.sdm_drive.specs.Drive.{Drive, drive_row, drive_rows, after_step}
use Rattle.sdm_drive.specs.DriveLaws.{LawOfDriveRows}
use Rattle.sdm_drive.specs.Held.{IsHeldDrive}
use Rattle.sdm_drive.proofs.Steps.{by_svl, start_held, step_held}

-- the row of a step has its front end at or before the SvL
pub row_by_svl : (eoa svl : ℕ) (s : Drive) → IsHeldDrive eoa svl s → (drive_row s).front ≤ℤ place_of_cell (pos svl)
unfolding drive_row
row_by_svl eoa svl s h = by_svl eoa svl (after_step s) (step_held eoa svl s h)

-- so have all rows
fronts : (eoa svl n : ℕ) (s : Drive) → IsHeldDrive eoa svl s →
    AllByRecursion (λ r. r.front ≤ℤ place_of_cell (pos svl)) (drive_rows n s)
fronts eoa svl zero s h = tt
fronts eoa svl (suc n) s h =
    (row_by_svl eoa svl s h, fronts eoa svl n (after_step s) (step_held eoa svl s h))

-- the least of distances that are not negative is not negative
not_negative : (svl : ℤ) (least : ℤ) (rows : List DriveRow) → pos 0 ≤ℤ least →
    AllByRecursion (λ r. r.front ≤ℤ svl) rows → pos 0 ≤ℤ fold int_min least (map (λ r. svl -ℤ r.front) rows)
not_negative svl least [] h k = h
not_negative svl least (r ∷ rows) h k =
    let here = k.0 in
    not_negative svl (int_min least (svl -ℤ r.front)) rows (omega (arith, ints, clamps)) k.1

mm_not_negative : (z : ℤ) → pos 0 ≤ℤ z → pos 0 ≤ℤ mm_below z
mm_not_negative z h = let k = floor_high millimetre z (omega arith) in omega (arith, ints, k)

-- no row of a drive is past the SvL
pub rows_by_svl : LawOfDriveRows
rows_by_svl d eoa svl seed n may =
    let by = fronts eoa svl n _ (start_held d eoa svl seed may) in
    let place = place_of_cell (pos svl) in
    record {
      fronts = All-from_recursion (λ r. r.front ≤ℤ place) _ by;
      least = mm_not_negative _ (not_negative place place _ (omega (arith, ints)) by);
    }
