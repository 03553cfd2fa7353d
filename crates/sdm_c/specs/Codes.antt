-- The values that C receives: codes for enums, 0 and 1 for flags (own). `sdm.h` names the codes.
use Rattle.std.specs.Prelude.{◌≡◌, ℕ, ℤ, pos, Bool, List, Option, Some, None, length, take, if◌then◌else◌}
use Rattle.sdm_rules.specs.declared.commands.State.{State}
use Rattle.sdm_rules.specs.declared.commands.State.TheVariants.{C, T, R}
use Rattle.sdm_rules.specs.declared.commands.Status.{Status}
use Rattle.sdm_rules.specs.declared.commands.Status.TheVariants.{N, I, O, W, X}
use Rattle.sdm_rules.specs.declared.display.Display.{Display}
use Rattle.sdm_rules.specs.declared.display.Shown.{Shown}
use Rattle.sdm_rules.specs.declared.rows.Row.{Row}
use Rattle.sdm_rules.specs.declared.targets.TargetKind.{TargetKind}
use Rattle.sdm_rules.specs.declared.targets.TargetKind.TheVariants.{Mrsp, Loa, Eoa, Svl}
use Rattle.sdm_causes.specs.declared.causes.Cause.{Cause}
use Rattle.sdm_causes.specs.declared.causes.Cause.TheVariants.{Ceiling, Passed, EndOfAuthority, ReleaseSpeed}
use Rattle.sdm_causes.specs.declared.causes.Cause.TheVariants.{NoServiceBrake}
use Rattle.sdm_causes.specs.declared.causes.Causes.{Causes}
use Rattle.sdm_causes.specs.declared.causes.Standing.{Standing}
use Rattle.sdm_causes.specs.declared.causes.Standing.TheVariants.{Off, Set, Held}
use Rattle.sdm_causes.specs.declared.causes.Until.{Until}
use Rattle.sdm_causes.specs.declared.causes.Until.TheVariants.{PermittedSpeed, Standstill, StandstillOrPermittedSpeed}
use Rattle.sdm_c.specs.declared.structs.CauseC.{CauseC}
use Rattle.sdm_c.specs.declared.structs.CausesC.{CausesC}
use Rattle.sdm_c.specs.declared.structs.DisplayC.{DisplayC}
use Rattle.sdm_c.specs.declared.structs.LineC.{LineC}
use Rattle.sdm_c.specs.declared.structs.PlaceC.{PlaceC}
use Rattle.sdm_c.specs.declared.structs.RowC.{RowC}

-- a flag (own)
abbrev pub flag : Bool → ℕ
flag b = if b then 1 else 0

-- a place in mm, or none (own)
abbrev pub place_in_c : Option ℤ → PlaceC
place_in_c None = record { mm = pos 0; is_some = 0 }
place_in_c (Some mm) = record { mm = mm; is_some = 1 }

-- the type of speed and distance monitoring: ceiling, target, release speed monitoring (SUBSET-026-3 3.13.10.1; codes
-- own)
abbrev pub state_code : State → ℕ
state_code C = 0
state_code T = 1
state_code R = 2

-- the supervision status: normal, indication, overspeed, warning, intervention (SUBSET-026-3 3.13.10; codes own)
abbrev pub status_code : Status → ℕ
status_code N = 0
status_code I = 1
status_code O = 2
status_code W = 3
status_code X = 4

-- a row (own)
abbrev pub row_in_c : Row → RowC
row_in_c row = record {
  time_ds = row.time;
  state = state_code row.state;
  status = status_code row.held.status;
  tco = flag row.held.tco;
  sb = flag row.held.sb;
  eb = flag row.held.eb;
  covered = flag row.covered;
  ceiling_kmh = row.ceiling;
  ebi = place_in_c row.ebi;
  sbi = place_in_c row.sbi;
  warning = place_in_c row.warning;
  permitted = place_in_c row.permitted;
  indication = place_in_c row.indication;
}

-- the kind of a target: a fall of the MRSP, an EOA, an SvL, an LOA (SUBSET-026-3 3.13.8.2; codes own)
abbrev pub kind_code : TargetKind → ℕ
kind_code Mrsp = 1
kind_code Eoa = 2
kind_code Svl = 3
kind_code Loa = 4

-- the kind of the target that counts; 0 where there is none (own)
abbrev pub target_code : Option Shown → ℕ
target_code None = 0
target_code (Some shown) = kind_code shown.kind

-- the speed of the target that counts in km/h; 0 where there is none (own)
abbrev pub target_kmh_in_c : Option Shown → ℕ
target_kmh_in_c None = 0
target_kmh_in_c (Some shown) = shown.speed

-- the distance to the target that counts in mm; 0 where there is none (own)
abbrev pub distance_in_c : Option Shown → ℤ
distance_in_c None = pos 0
distance_in_c (Some shown) = shown.distance

-- what is shown of a reading (own)
abbrev pub display_in_c : Display → DisplayC
display_in_c display = record {
  time_ds = display.time;
  permitted_kmh = display.permitted;
  sbi_kmh = display.sbi;
  ebi_kmh = display.ebi;
  release_kmh = display.release;
  target = target_code display.shown;
  target_kmh = target_kmh_in_c display.shown;
  distance_mm = distance_in_c display.shown;
}

-- the rule of a cause: the ceiling, a target, the end of the authority, the release speed, no service brake in use (own)
abbrev pub rule_code : Cause → ℕ
rule_code Ceiling = 1
rule_code (Passed target) = 2
rule_code EndOfAuthority = 3
rule_code ReleaseSpeed = 4
rule_code NoServiceBrake = 5

-- a rule alone, of no target; 0 for none (own)
abbrev pub rule_in_c : ℕ → CauseC
rule_in_c rule = record { rule = rule; target = 0; target_kmh = 0; target_mm = pos 0; limit_mm = pos 0 }

-- the cause of a trigger, none where it doesn't hold (own)
abbrev pub cause_in_c : Option Cause → CauseC
cause_in_c None = rule_in_c 0
cause_in_c (Some Ceiling) = rule_in_c (rule_code Ceiling)
cause_in_c (Some (Passed target)) = record {
  rule = rule_code (Passed target);
  target = kind_code target.kind;
  target_kmh = target.speed;
  target_mm = target.place;
  limit_mm = target.limit;
}
cause_in_c (Some EndOfAuthority) = rule_in_c (rule_code EndOfAuthority)
cause_in_c (Some ReleaseSpeed) = rule_in_c (rule_code ReleaseSpeed)
cause_in_c (Some NoServiceBrake) = rule_in_c (rule_code NoServiceBrake)

-- until what a command is held: the permitted speed, standstill, either (own)
abbrev pub until_code : Until → ℕ
until_code PermittedSpeed = 2
until_code Standstill = 3
until_code StandstillOrPermittedSpeed = 4

-- how a command stands: off, set, held until something (own)
abbrev pub standing_code : Standing → ℕ
standing_code Off = 0
standing_code Set = 1
standing_code (Held until) = until_code until

-- the causes of a reading (own)
unfoldable pub causes_in_c : Causes → CausesC
causes_in_c causes = record {
  time_ds = causes.time;
  tco = standing_code causes.tco;
  sb = standing_code causes.sb;
  eb = standing_code causes.eb;
  over = cause_in_c causes.over;
  warn = cause_in_c causes.warn;
  serv = cause_in_c causes.serv;
  emer = cause_in_c causes.emer;
}

-- the line is this text: so many of its bytes (own)
pub record IsLine (line : LineC) (text : List ℕ) : Type 0 where
  pub count : line.count ≡ length text
  pub bytes : take line.count line.bytes ≡ text
