-- What a row promises beside the order of the machines and the safety of covered rows (own).
use Rattle.std.specs.Prelude.{◌≡◌, ℕ, false, Contains, ◌<◌, ◌≤◌, ◌+◌}
use Rattle.sdm_num.specs.Units.{notches}
use Rattle.sdm_num.specs.Readings.{OdometerReading, estimate_of}
use Rattle.sdm_rules.specs.declared.authorities.Authority.TheVariants.{Stop}
use Rattle.sdm_rules.specs.declared.rows.Row.{Row}
use Rattle.sdm_rules.specs.declared.targets.Target.{Target}
use Rattle.sdm_rules.specs.Margins.{ebi_margin}
use Rattle.sdm_rules.specs.Machines.{BeginsReleaseMonitoringAt}
use Rattle.sdm_rules.specs.Stop.{IsUncoveredSpeedTarget}
use Rattle.sdm_rules.specs.Supervision.{Supervision, situation_of, is_covered_for}

-- of a moving train each target that is not covered is a gap: a target of speed whose foot speed V_est does not pass
-- and V_bec does
abbrev pub HasOnlyGaps : Supervision → OdometerReading → Type 0
HasOnlyGaps s r = 0 < r.speed → (t : Target) → Contains (situation_of s r).targets t →
    is_covered_for s.train_and_track r.max (estimate_of r) t ≡ false →
    IsUncoveredSpeedTarget s r t

-- the speed is at most the ceiling of the row with its EBI margin, in notches (SUBSET-026-3 3.13.10.3; own)
abbrev pub IsWithinCeiling : OdometerReading → Row → Type 0
IsWithinCeiling r row = r.speed ≤ notches row.ceiling + ebi_margin row.ceiling

-- release speed monitoring begins at its exact start, or less than a millimetre before it (SUBSET-026-3 3.13.9.4; own)
abbrev pub BeginsReleaseMonitoring : Supervision → OdometerReading → Type 0
BeginsReleaseMonitoring s r = (eoa svl release : ℕ) → s.authority ≡ Stop eoa svl release → 0 < release →
    BeginsReleaseMonitoringAt s r eoa svl release
