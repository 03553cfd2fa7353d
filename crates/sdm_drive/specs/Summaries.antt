-- What a summary counts of the rows of a drive (own).
use Rattle.std.specs.Prelude.{ℕ, ℤ, pos, List, ◌+◌, ◌*◌, ◌≤◌, ◌≤ℤ◌, count_by, fold, length}
use Rattle.sdm_rules.specs.Cells.{place_of_cell}
use Rattle.sdm_rules.specs.Ranges.{longest_track}
use Rattle.sdm_drive.specs.declared.rows.DriveRow.{DriveRow}
use Rattle.sdm_drive.specs.Drive.{last_front, least_ahead, step_time}
use Rattle.sdm_drive.specs.DriveLaws.{most_steps}

-- the SvL in cm, how many rows there are, how many of them have the emergency brake commanded, how many stops there
-- were, and in grains the last front end and how far the SvL was at least ahead
pub record Counts : Type 0 where
  pub svl : ℕ
  pub cycles : ℕ
  pub emergency : ℕ
  pub stops : ℕ
  pub front : ℤ
  pub least : ℤ

-- the counts of rows on the way to an SvL
abbrev pub counts_of : ℕ → List DriveRow → Counts
counts_of svl rows = record {
  svl = svl;
  cycles = length rows;
  emergency = count_by (λ r. r.row.held.eb) rows;
  stops = fold (λ total r. total + r.stops) 0 rows;
  front = last_front rows;
  least = least_ahead svl rows;
}

-- the counts are those of a drive on a track of at most 100 km: no row is past the SvL
pub record AreInRange (c : Counts) : Type 0 where
  pub on_track : c.svl ≤ longest_track
  pub few : c.cycles ≤ most_steps
  pub emergency : c.emergency ≤ c.cycles
  pub stops : c.stops ≤ step_time * c.cycles
  pub from_start : pos 0 ≤ℤ c.front
  pub by_svl : c.front ≤ℤ place_of_cell (pos c.svl)
  pub not_past : pos 0 ≤ℤ c.least
  pub ahead : c.least ≤ℤ place_of_cell (pos c.svl)

-- the row is one of a drive to an SvL: its front end lies from the start to the SvL, and it has no more stops than ds
pub record IsRowBefore (svl : ℕ) (r : DriveRow) : Type 0 where
  pub from_start : pos 0 ≤ℤ r.front
  pub by_svl : r.front ≤ℤ place_of_cell (pos svl)
  pub stops : r.stops ≤ step_time
