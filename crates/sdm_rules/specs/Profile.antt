-- The most restrictive speed profile, MRSP (SUBSET-026-3 3.13.7), cell by cell.
use Rattle.std.specs.Prelude.{ℕ, ℤ, pos, Bool, true, ◌&&◌, List, [], ◌∷◌, ◌++◌, Option, Some, None, ◌+ℤ◌, min, int_le}
use Rattle.std.specs.Prelude.{int_lt, unsigned_abs, map, if◌then◌else◌}
use Rattle.std.specs.Int.{int_gap}
use Rattle.std.specs.Option.{option_map_or}
use Rattle.sdm_rules.specs.declared.data.SpeedStep.{SpeedStep}
use Rattle.sdm_rules.specs.declared.restrictions.Restriction.{Restriction}
use Rattle.sdm_rules.specs.Cells.{cell_of, lowest}
use Rattle.sdm_rules.specs.Data.{TrainData, TrackData}

-- a speed restriction in km/h: from a cell up to, but not including, another; none where it has no beginning or no end
-- (own)
pub record Zone : Type 0 where
  pub first : Option ℤ
  pub past : Option ℤ
  pub limit : ℕ

-- the restriction covers the cell (own)
abbrev pub covers : ℤ → Zone → Bool
covers cell z = option_map_or (λ c. int_le c cell) z.first true && option_map_or (λ c. int_lt cell c) z.past true

-- where a restriction ends for the front end: a delayed one when the rear end has passed its end (SUBSET-026-3 3.13.7;
-- own cell form)
abbrev pub end_for : ℤ → Bool → ℤ → ℤ
end_for length_cm delayed end = if delayed then end +ℤ length_cm else end

-- the static speed profile: each entry up to the next one's start; the first also before the track, the last without
-- end (SUBSET-026-3 3.11.3; own cell form)
abbrev pub static_zones : ℤ → Option ℤ → SpeedStep → List SpeedStep → List Zone
static_zones length_cm first e [] = record { first = first; past = None; limit = unsigned_abs e.speed } ∷ []
static_zones length_cm first e (next ∷ es) =
    record { first = first; past = Some (end_for length_cm e.delayed next.start); limit = unsigned_abs e.speed }
    ∷ static_zones length_cm (Some next.start) next es

-- the restrictions of the static speed profile (SUBSET-026-3 3.11.3; own cell form)
abbrev pub zones_of_track : ℤ → List SpeedStep → List Zone
zones_of_track length_cm [] = []
zones_of_track length_cm (e ∷ es) = static_zones length_cm None e es

-- a temporary speed restriction (SUBSET-026-3 3.11.5; own cell form)
abbrev pub zone_of : ℤ → Restriction → Zone
zone_of length_cm r = record {
  first = Some (pos r.start);
  past = Some (end_for length_cm r.delayed (pos r.end));
  limit = r.speed;
}

-- the lower of the speed so far and the restriction's, where it covers the cell (own)
abbrev pub capped : ℤ → Zone → ℕ → ℕ
capped cell z speed = if covers cell z then min z.limit speed else speed

-- the lowest speed of all restrictions that cover the cell, and at most the greatest one (own)
abbrev pub lowest_limit : ℕ → ℤ → List Zone → ℕ
lowest_limit top cell [] = top
lowest_limit top cell (z ∷ zs) = capped cell z (lowest_limit top cell zs)

-- the MRSP of a cell in km/h: the lowest of the maximum train speed, the static speed profile and the temporary
-- restrictions in force (SUBSET-026-3 3.13.7; own cell form)
unfoldable pub mrsp : TrainData → TrackData → List Restriction → ℤ → ℕ
mrsp train track restrictions cell =
    lowest_limit (unsigned_abs train.max_speed) cell
    (zones_of_track train.length_cm track.speeds ++ map (zone_of train.length_cm) restrictions)

-- the lowest speed of a profile between two places, the cells of both included: the ceiling from the min safe front
-- end to the max safe front end (own)
abbrev pub lowest_between : (ℤ → ℕ) → ℤ → ℤ → ℕ
lowest_between profile back front = lowest min profile (cell_of back) (int_gap (cell_of back) (cell_of front))
