-- The records of a journey as `csv` reads them from bytes in memory (own).
use Rattle.std.specs.Prelude.{ℕ, List, ◌≤◌, ⊤}
use Rattle.sdm_rules.specs.declared.records.Event.{Event}
use Rattle.sdm_rules.specs.declared.records.Event.TheVariants.{Read, Authority, Calculated, Restrict, Revoke}
use Rattle.sdm_rules.specs.Ranges.{top_kmh}
use Rattle.csv.specs.Reading.{default_config, records, strip_bom}

-- a record is the list of its fields, of any bytes
abbrev pub Record : Type 0
Record = List (List ℕ)

-- the records of bytes: comma separated, with no header row and of any lengths, after a byte order mark if there is
-- one
abbrev pub records_of : List ℕ → List Record
records_of bytes = records default_config (strip_bom bytes)

-- a restriction has a speed of 1 to 500 km/h (ranges own)
abbrev pub IsInForm : Event → Type 0
IsInForm (Read r) = ⊤
IsInForm (Authority a) = ⊤
IsInForm (Calculated eoa svl trip) = ⊤
IsInForm (Restrict r) = (1 ≤ r.speed) × (r.speed ≤ top_kmh)
IsInForm (Revoke id) = ⊤
