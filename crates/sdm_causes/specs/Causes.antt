-- Why a reading triggers, and why each command is as it is after it (SUBSET-026-3 3.13.10; own). Of all causes of a
-- trigger the first is reported, in this order: the ceiling, the first target that is passed, the end of the authority,
-- the release speed, an SBI that is passed with no service brake in use.
use Rattle.std.specs.Prelude.{pos, Bool, not, ◌&&◌, ◌||◌, List, [], ◌∷◌, Option, Some, None, option_map, is_some}
use Rattle.std.specs.Prelude.{if◌then◌else◌}
use Rattle.std.specs.List.{find}
use Rattle.std.specs.Option.{option_map_or, option_or}
use Rattle.sdm_num.specs.Bounds.{mm_below}
use Rattle.sdm_num.specs.Readings.{OdometerReading, estimate_of}
use Rattle.sdm_rules.specs.declared.commands.Held.{Held as Commands}
use Rattle.sdm_rules.specs.declared.limits.LimitKind.{LimitKind}
use Rattle.sdm_rules.specs.declared.limits.LimitKind.TheVariants.{Ebi, Sbi, Warning, Permitted}
use Rattle.sdm_rules.specs.declared.targets.Target.{Target}
use Rattle.sdm_rules.specs.Data.{TrainAndTrack}
use Rattle.sdm_rules.specs.Limits.{SupervisionLimits, computed, limit_in, limits_of}
use Rattle.sdm_rules.specs.Supervision.{Supervision, situation_of, whole_mm}
use Rattle.sdm_rules.specs.Triggers.{Situation, above_ceiling, above_release, passes}
use Rattle.sdm_causes.specs.declared.causes.Cause.{Cause}
use Rattle.sdm_causes.specs.declared.causes.Cause.TheVariants.{Ceiling, Passed, EndOfAuthority, ReleaseSpeed}
use Rattle.sdm_causes.specs.declared.causes.Cause.TheVariants.{NoServiceBrake}
use Rattle.sdm_causes.specs.declared.causes.Causes.{Causes}
use Rattle.sdm_causes.specs.declared.causes.PassedTarget.{PassedTarget}
use Rattle.sdm_causes.specs.declared.causes.Standing.{Standing}
use Rattle.sdm_causes.specs.declared.causes.Standing.TheVariants.{Off, Set, Held}
use Rattle.sdm_causes.specs.declared.causes.Until.{Until}
use Rattle.sdm_causes.specs.declared.causes.Until.TheVariants.{PermittedSpeed, Standstill, StandstillOrPermittedSpeed}

-- ---- targets

-- the first target that is passed by its limit of a kind, in the order of the targets (SUBSET-026-3 3.13.10.4; own)
abbrev pub first_passed : LimitKind → (Target → SupervisionLimits) → Situation → Option Target
first_passed kind limits s = find (λ t. passes kind s.speed s.est s.front 0 t (limits t)) s.targets

-- the report of a target that is passed by its limit of a kind: its kind, its place in mm, its speed in km/h, and the
-- limit in mm rounded down, which it has (own)
abbrev pub told_target : LimitKind → SupervisionLimits → Target → PassedTarget
told_target kind limits t = record {
  kind = t.kind;
  place = mm_below t.place;
  speed = t.speed;
  limit = option_map_or whole_mm (limit_in kind limits) (pos 0);
}

-- the report of the first target that is passed by its limit of a kind, if one is (own)
unfoldable pub told_first : LimitKind → (Target → SupervisionLimits) → Situation → Option PassedTarget
told_first kind limits s = option_map (λ t. told_target kind (limits t) t) (first_passed kind limits s)

-- ---- the first cause of a trigger

-- a cause, where it holds (own)
abbrev pub where_so : Bool → Cause → Option Cause
where_so stands cause = if stands then Some cause else None

-- the first of several causes that holds (own)
abbrev pub first_of : List (Option Cause) → Option Cause
first_of [] = None
first_of (cause ∷ causes) = option_or cause (first_of causes)

-- the first cause by which the limit of a kind is passed: the ceiling, then the report of a target, if one is passed
-- (SUBSET-026-3 3.13.10; own order)
abbrev pub by_limit : LimitKind → Situation → Option PassedTarget → Option Cause
by_limit kind s target = first_of (where_so (above_ceiling kind s) Ceiling ∷ option_map Passed target ∷ [])

-- the first cause by which the limit of a kind is passed, by the limits of the targets (SUBSET-026-3 3.13.10; own order)
abbrev pub passed_by : LimitKind → (Target → SupervisionLimits) → Situation → Option Cause
passed_by kind limits s = by_limit kind s (told_first kind limits s)

-- the first cause of a speed above the permitted one: its limit, then the release speed (SUBSET-026-3 3.13.10; own
-- order)
abbrev pub over_by : (Target → SupervisionLimits) → Situation → Option Cause
over_by limits s = first_of (passed_by Permitted limits s ∷ where_so (above_release s) ReleaseSpeed ∷ [])

-- the first cause of a warning: its limit (SUBSET-026-3 3.13.10; own order)
abbrev pub warn_by : (Target → SupervisionLimits) → Situation → Option Cause
warn_by limits s = passed_by Warning limits s

-- the first cause of a service brake intervention: its limit (SUBSET-026-3 3.13.10; own order)
abbrev pub serv_by : (Target → SupervisionLimits) → Situation → Option Cause
serv_by limits s = passed_by Sbi limits s

-- the first cause of an emergency, by the causes of an EBI and of an SBI that is passed: the EBI, then the end of the
-- authority, the release speed, and the SBI with no service brake in use (SUBSET-026-3 3.13.10; own order)
abbrev pub emergency_by : Situation → Option Cause → Option Cause → Option Cause
emergency_by s ebi sbi = first_of (ebi ∷ where_so s.past_end EndOfAuthority ∷ where_so (above_release s) ReleaseSpeed
    ∷ where_so (is_some sbi && not s.in_use) NoServiceBrake ∷ [])

-- the first cause of an emergency (SUBSET-026-3 3.13.10; own order)
abbrev pub emer_by : (Target → SupervisionLimits) → Situation → Option Cause
emer_by limits s = emergency_by s (passed_by Ebi limits s) (serv_by limits s)

-- ---- how a command stands

-- a command after a reading: set where a cause of it holds, else held until something, where it is commanded (own)
abbrev pub standing : Bool → Bool → Until → Standing
standing commanded caused until = if commanded then (if caused then Set else Held until) else Off

-- what releases the emergency command: standstill, and where Q_NVEMRRLS permits it the permitted speed (SUBSET-026-3
-- 3.13.10)
abbrev pub emergency_until : Bool → Until
emergency_until early_release = if early_release then StandstillOrPermittedSpeed else Standstill

-- ---- the causes of a reading

-- the causes of a reading in a situation, with the commands after it, by the computed limits (own)
unfoldable pub causes_in : TrainAndTrack → Commands → OdometerReading → Situation → Causes
causes_in d commands r now =
    let limits = limits_of computed d (estimate_of r) in
    let warn = warn_by limits now in
    let serv = serv_by limits now in
    let emer = emer_by limits now in
    record {
      time = r.time;
      over = over_by limits now;
      warn = warn;
      serv = serv;
      emer = emer;
      tco = standing commands.tco (is_some warn || is_some serv || is_some emer) PermittedSpeed;
      sb = standing commands.sb (is_some serv) PermittedSpeed;
      eb = standing commands.eb (is_some emer) (emergency_until d.national.early_release);
    }

-- the causes of the reading that was taken last, in the state after it (own)
abbrev pub causes_of : Supervision → OdometerReading → Causes
causes_of s r = causes_in s.train_and_track s.commands r (situation_of s r)
