-- The counts of rows and one more row follow from those of the rows before: each count is a sum, the last front end is
-- that of the last row, and the least distance is that to the foremost front end.
use Rattle.std.proofs.Common.{◌≡◌, ℕ, ℤ, pos, ◌+◌, ◌<ℤ◌, ◌≤ℤ◌, ◌-ℤ◌, refl, List, ◌∷◌, [], ◌++◌, cond, arith}
use Rattle.std.proofs.lemmas.Int.{ints, clamps}
use Rattle.std.proofs.lemmas.List.{length-append}
use Rattle.std.proofs.lemmas.List.Sums.{fold_push}
use Rattle.std.specs.Prelude.{length, map, fold}
use Rattle.std.specs.Int.{int_min}
use Rattle.sdm_rules.specs.Cells.{place_of_cell}
use Rattle.sdm_drive.specs.declared.rows.DriveRow.{DriveRow}
use Rattle.sdm_drive.specs.Summaries.{Counts, counts_of}

-- the least distance after one more row
least_push : (start svl : ℤ) (rows : List DriveRow) (row : DriveRow) →
    fold int_min start (map (λ (r : DriveRow). svl -ℤ r.front) (rows ++ row ∷ []))
    ≡ int_min (fold int_min start (map (λ (r : DriveRow). svl -ℤ r.front) rows)) (svl -ℤ row.front)
least_push start svl [] row = refl
least_push start svl (r ∷ rows) row = least_push (int_min start (svl -ℤ r.front)) svl rows row

-- the counts of rows and of one row more
pub one_more :
    (svl : ℕ) (rows : List DriveRow) (row : DriveRow) (n e t : ℕ) (least : ℤ) (s : Counts) →
    s ≡ counts_of svl rows →
    n ≡ s.cycles + 1 →
    e ≡ s.emergency + cond row.row.held.eb 1 0 →
    t ≡ s.stops + row.stops →
    least ≡ int_min s.least (place_of_cell (pos svl) -ℤ row.front) →
    record { svl = svl; cycles = n; emergency = e; stops = t; front = row.front; least = least }
    ≡ counts_of svl (rows ++ row ∷ [])
one_more svl rows row n e t least s s_is n_is e_is t_is least_is =
    let rows_all : length (rows ++ row ∷ []) ≡ length rows + 1 = length-append rows (row ∷ []) in
    let emergency_all = fold_push (λ n r. n + cond r.row.held.eb 1 0) 0 rows row in
    let stops_all = fold_push (λ n r. n + r.stops) 0 rows row in
    let front_all = fold_push (λ place r. r.front) (pos 0) rows row in
    let least_all = least_push (place_of_cell (pos svl)) (place_of_cell (pos svl)) rows row in
    cc

-- of two places the one that lies before the SvL by less is the later one
pub least_of_later : (svl m front : ℤ) → m <ℤ front → svl -ℤ front ≡ int_min (svl -ℤ m) (svl -ℤ front)
least_of_later svl m front later = omega (arith, ints, clamps, later)

pub least_of_earlier : (svl m front : ℤ) → front ≤ℤ m → svl -ℤ m ≡ int_min (svl -ℤ m) (svl -ℤ front)
least_of_earlier svl m front earlier = omega (arith, ints, clamps, earlier)
