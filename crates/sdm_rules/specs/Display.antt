-- What a driver is shown at a reading: three limits as speeds, the release speed, and the target that counts (own). A
-- limit's speed is the greatest whole speed at which the limit isn't passed, all else as in the reading.
use Rattle.std.specs.Prelude.{ℕ, ℤ, pos, Bool, true, false, not, ◌&&◌, ◌||◌, ◌-ℤ◌, ◌*ℤ◌, List, [], ◌∷◌, Option, Some}
use Rattle.std.specs.Prelude.{None, fold, filter, option_map, nat_lt, int_lt, if◌then◌else◌}
use Rattle.std.specs.Int.{int_max}
use Rattle.sdm_num.specs.Units.{notches, top_kmh}
use Rattle.sdm_num.specs.Fractions.{Fraction}
use Rattle.sdm_num.specs.Bounds.{mm_below}
use Rattle.sdm_num.specs.Readings.{Estimate, OdometerReading, estimate_of}
use Rattle.sdm_rules.specs.declared.authorities.Authority.{Authority}
use Rattle.sdm_rules.specs.declared.authorities.Authority.TheVariants.{Stop, Limit}
use Rattle.sdm_rules.specs.declared.display.Display.{Display}
use Rattle.sdm_rules.specs.declared.display.LimitName.{LimitName}
use Rattle.sdm_rules.specs.declared.display.LimitName.TheVariants.{Permitted, Sbi, Ebi}
use Rattle.sdm_rules.specs.declared.display.Shown.{Shown}
use Rattle.sdm_rules.specs.declared.limits.LimitKind.{LimitKind}
use Rattle.sdm_rules.specs.declared.limits.LimitKind.TheVariants as kinds
use Rattle.sdm_rules.specs.declared.targets.Target.{Target}
use Rattle.sdm_rules.specs.Data.{TrainAndTrack}
use Rattle.sdm_rules.specs.Targets.{target_speed}
use Rattle.sdm_rules.specs.Limits.{SupervisionLimits, computed, limits_of}
use Rattle.sdm_rules.specs.Triggers.{Situation, above_release, front_for, is_passed}
use Rattle.sdm_rules.specs.Supervision.{Supervision, situation_of}
use Rattle.sdm_rules.specs.Release.{greatest_up_to}

-- ---- limits as speeds

-- the estimate of a reading with another speed, in notches; its acceleration and its under-reading amount stay (own)
abbrev pub estimate_at : ℕ → OdometerReading → Estimate
estimate_at v r = record (estimate_of r) { speed = v }

-- a situation with another speed, in notches; front ends, targets and release speed monitoring stay (own)
abbrev pub situation_at : ℕ → Situation → Situation
situation_at v now = record now { speed = v }

-- which supervision limit is shown as a speed (own)
abbrev pub kind_of : LimitName → LimitKind
kind_of Permitted = kinds.Permitted
kind_of Sbi = kinds.Sbi
kind_of Ebi = kinds.Ebi

-- the release speed counts as the limit: as the permitted speed and as the EBI (SUBSET-026-3 3.13.10.5)
abbrev pub counts_release : LimitName → Bool
counts_release Permitted = true
counts_release Sbi = false
counts_release Ebi = true

-- the limit is passed, that of the ceiling or of a target, or the release speed where it counts as the limit
-- (SUBSET-026-3 3.13.10; own)
abbrev pub is_exceeded : LimitName → (Target → SupervisionLimits) → Situation → Bool
is_exceeded name limits now = is_passed (kind_of name) limits 0 now || (counts_release name && above_release now)

-- at a speed in km/h, instead of the reading's, the limit would be passed, by the computed limits of that speed (own)
unfoldable pub passes_limit : TrainAndTrack → OdometerReading → Situation → LimitName → ℕ → Bool
passes_limit d r now name kmh =
    is_exceeded name (limits_of computed d (estimate_at (notches kmh) r)) (situation_at (notches kmh) now)

-- the limit as a speed: the greatest whole speed up to 500 km/h at which it isn't passed (own)
unfoldable pub display_speed : TrainAndTrack → OdometerReading → Situation → LimitName → ℕ
display_speed d r now name = greatest_up_to top_kmh (λ kmh. not (passes_limit d r now name kmh))

-- a limit of a reading as a speed, in km/h (own)
abbrev pub display_speed_of : Supervision → OdometerReading → LimitName → ℕ
display_speed_of s r name = display_speed s.train_and_track r (situation_of s r) name

-- ---- the target that counts

-- the second target where its limit is earlier than the first one's, else the first (own)
abbrev pub earlier_target : (Target → Fraction) → Target → Target → Target
earlier_target limit t u =
    if int_lt (pos (limit t).m *ℤ (limit u).n) (pos (limit u).m *ℤ (limit t).n) then u else t

-- the first of the targets whose limit is least, if there is a target (own)
abbrev pub first_least : (Target → Fraction) → List Target → Option Target
first_least limit [] = None
first_least limit (t ∷ ts) = Some (fold (earlier_target limit) t ts)

-- how far the front end that the target compares is before its place, in mm rounded down; 0 where it is past it (own)
abbrev pub distance_to : Situation → Target → ℤ
distance_to now t = int_max (mm_below (t.place -ℤ front_for now.est now.front t.kind)) (pos 0)

-- the target that counts: of those that are slower than the train the first whose computed permitted limit is least
-- (own)
unfoldable pub counting_target : TrainAndTrack → OdometerReading → Situation → Option Target
counting_target d r now =
    first_least (λ t. (limits_of computed d (estimate_of r) t).permitted)
    (filter (λ t. nat_lt (target_speed t) r.speed) now.targets)

-- what is shown of a target: its kind, its speed in km/h, and its distance (own)
abbrev pub shown_as : Situation → Target → Shown
shown_as now t = record { kind = t.kind; speed = t.speed; distance = distance_to now t }

-- what is shown of the target that counts, if there is one (own)
abbrev pub shown_target : TrainAndTrack → OdometerReading → Situation → Option Shown
shown_target d r now = option_map (shown_as now) (counting_target d r now)

-- the target that is shown of a reading (own)
abbrev pub shown_target_of : Supervision → OdometerReading → Option Shown
shown_target_of s r = shown_target s.train_and_track r (situation_of s r)

-- ---- all that is shown

-- the release speed of an authority in km/h; 0 for a limit of authority (SUBSET-026-3 3.13.9.4; own)
abbrev pub release_speed_of : Authority → ℕ
release_speed_of (Stop eoa svl release) = release
release_speed_of (Limit loa speed) = 0

-- what is shown of a reading (own)
unfoldable pub display_of : Supervision → OdometerReading → Display
display_of s r = record {
  time = r.time;
  permitted = display_speed_of s r Permitted;
  sbi = display_speed_of s r Sbi;
  ebi = display_speed_of s r Ebi;
  release = release_speed_of s.authority;
  shown = shown_target_of s r;
}
