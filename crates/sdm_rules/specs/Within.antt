-- A reading within the SvL: braking from it on, the train stops at or before the SvL (own).
use Rattle.std.specs.Prelude.{◌≡◌, ℕ, Bool, false, not, ◌&&◌, is_some}
use Rattle.std.specs.Option.{option_map_or}
use Rattle.sdm_num.specs.Readings.{OdometerReading, estimate_of}
use Rattle.sdm_rules.specs.declared.authorities.Authority.{Authority}
use Rattle.sdm_rules.specs.declared.authorities.Authority.TheVariants.{Stop, Limit}
use Rattle.sdm_rules.specs.Data.{TrainAndTrack}
use Rattle.sdm_rules.specs.Limits.{computed, limits_of}
use Rattle.sdm_rules.specs.Stop.{StopsBySvl}
use Rattle.sdm_rules.specs.Supervision.{Supervision, release_of}
use Rattle.sdm_rules.specs.Targets.{svl_target}
use Rattle.sdm_rules.specs.Triggers.{is_past}

-- the max safe front end is at or before the computed EBI of an SvL, in cm (own)
abbrev pub is_before_svl : TrainAndTrack → OdometerReading → ℕ → Bool
is_before_svl d r svl =
    option_map_or (λ ebi. not (is_past 0 r.max ebi)) (limits_of computed d (estimate_of r) (svl_target svl)).ebi false

-- the same of an authority that is a stop, but not in release speed monitoring (own)
abbrev pub is_within : TrainAndTrack → OdometerReading → Authority → Bool
is_within d r (Stop eoa svl release) =
    not (is_some (release_of d (Stop eoa svl release) r.max)) && is_before_svl d r svl
is_within d r (Limit loa speed) = false

-- the reading is within the SvL: the authority is a stop, the train isn't in release speed monitoring, and its max
-- safe front end is at or before the computed EBI of the SvL (own)
unfoldable pub is_within_svl : Supervision → OdometerReading → Bool
is_within_svl s r = is_within s.train_and_track r s.authority

-- every motion from the reading stops at or before the SvL of the authority, where it has one (own)
abbrev pub StopsByItsSvl : Supervision → OdometerReading → Type 0
StopsByItsSvl s r = (eoa svl release : ℕ) → s.authority ≡ Stop eoa svl release → StopsBySvl s.train_and_track r svl
