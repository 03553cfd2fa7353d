-- Three machines for the emergency command, which differ in the limits of targets alone (own). The exact machine has
-- the exact limits, the row machine, which is the supervisor, the computed ones, the early machine the exact limits
-- one millimetre earlier. All take the type of speed and distance monitoring from the row machine, and each holds its
-- own command.
use Rattle.std.specs.Prelude.{◌≡◌, ℕ, Bool, IsTrue, ◌==◌}
use Rattle.sdm_num.specs.Units.{millimetre}
use Rattle.sdm_num.specs.Readings.{OdometerReading, estimate_of}
use Rattle.sdm_rules.specs.declared.commands.State.TheVariants.{R}
use Rattle.sdm_rules.specs.Limits.{CurvePlaces, limits_of, release_start, exact_places}
use Rattle.sdm_rules.specs.Triggers.{is_past, triggers_of}
use Rattle.sdm_rules.specs.Commands.{emergency_after}
use Rattle.sdm_rules.specs.Supervision.{Supervision, situation_of, commands_in, row_of}

-- the emergency command of a machine after a reading, from the one that it holds, by some way to find places and with
-- every limit so many grains earlier
unfoldable pub machine_after : CurvePlaces → ℕ → Supervision → OdometerReading → Bool → Bool
machine_after P shift s r held =
    emergency_after held (triggers_of (limits_of P s.train_and_track (estimate_of r)) shift (situation_of s r))
    (r.speed == 0) s.train_and_track.national.early_release

-- the exact machine: where it commands the emergency brake, the supervisor must
abbrev pub must_after : Supervision → OdometerReading → Bool → Bool
must_after s r held = machine_after exact_places 0 s r held

-- the early machine: only where it commands the emergency brake, the supervisor may
abbrev pub may_after : Supervision → OdometerReading → Bool → Bool
may_after s r held = machine_after exact_places millimetre s r held

-- `a` holds only where `b` does
abbrev pub Implies : Bool → Bool → Type 0
Implies a b = IsTrue a → IsTrue b

-- the commands of the exact machine, the supervisor and the early machine stand in order: each holds only where the
-- next does
pub record InOrder (must held may : Bool) : Type 0 where
  pub needed : Implies must held
  pub allowed : Implies held may

-- commands in order stay in order over the reading, after which the supervisor's is `eb`
abbrev pub KeepsOrder : Supervision → OdometerReading → Bool → Type 0
KeepsOrder s r eb =
    (must may : Bool) → InOrder must s.commands.eb may → InOrder (must_after s r must) eb (may_after s r may)

-- the emergency command of the supervisor after a reading
abbrev pub held_after : Supervision → OdometerReading → Bool
held_after s r = (commands_in s.train_and_track s.commands r (situation_of s r)).eb

-- The row of a reading is in release speed monitoring wherever the max safe front end is past the exact start of it,
-- and only where it is past that place less one millimetre
pub record BeginsReleaseMonitoringAt (s : Supervision) (r : OdometerReading) (eoa svl release : ℕ) : Type 0 where
  pub always : IsTrue (is_past 0 r.max (release_start exact_places s.train_and_track eoa svl release)) →
      (row_of s r).state ≡ R
  pub only : (row_of s r).state ≡ R →
      IsTrue (is_past millimetre r.max (release_start exact_places s.train_and_track eoa svl release))
