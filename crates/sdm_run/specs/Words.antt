-- The command that the arguments of the program name (own).
use Rattle.std.specs.Prelude.{ℕ, ℤ, pos, List, [], ◌∷◌, Option, Some, None, Result, Ok, Err, ◌≤◌, String, string_bytes}
use Rattle.std.specs.Prelude.{map, codes, unsigned_abs, if◌then◌else◌}
use Rattle.std.specs.Str.{bytes_eq}
use Rattle.std.specs.declared.alloc.Global.{Global}
use Rattle.sdm_rules.specs.declared.faults.FieldFault.{FieldFault}
use Rattle.sdm_rules.specs.Ranges.{longest_track}
use Rattle.sdm_rules.specs.Records.{most_records}
use Rattle.sdm_formats.specs.Numbers.{read_int}
use Rattle.sdm_run.specs.declared.words.Command.{Command}
use Rattle.sdm_run.specs.declared.words.Command.TheVariants.{Flat, Run, Display, Trial, Upgrade, Drive, Certify}
use Rattle.sdm_run.specs.declared.words.Command.TheVariants.{Check, Why}

-- a command with no words after it
abbrev pub alone : Command → List (List ℕ) → Option Command
alone command [] = Some command
alone command _ = None

-- `flat` with its two numbers, if both are read
abbrev pub flat_of : Result ℤ FieldFault → Result ℤ FieldFault → Option Command
flat_of (Ok decel) (Ok end) = Some (Flat (unsigned_abs decel) (unsigned_abs end))
flat_of (Ok decel) (Err fault) = None
flat_of (Err fault) end = None

-- the words after `flat`: A in cm/s², END in cm
abbrev pub flat_command : List (List ℕ) → Option Command
flat_command (decel ∷ end ∷ []) = flat_of (read_int decel (pos 5) (pos 400)) (read_int end (pos 0) (pos longest_track))
flat_command _ = None

-- a command with its NUMBER and CYCLES, if both are read
abbrev pub numbered_of : (ℕ → ℕ → Command) → Result ℤ FieldFault → Result ℤ FieldFault → Option Command
numbered_of command (Ok seed) (Ok cycles) = Some (command (unsigned_abs seed) (unsigned_abs cycles))
numbered_of command (Ok seed) (Err fault) = None
numbered_of command (Err fault) cycles = None

-- the words after `trial` and after `drive`: NUMBER and CYCLES
abbrev pub numbered_command : (ℕ → ℕ → Command) → List (List ℕ) → Option Command
numbered_command command (seed ∷ cycles ∷ []) =
    numbered_of command (read_int seed (pos 0) (pos 65_535)) (read_int cycles (pos 1) (pos most_records))
numbered_command command _ = None

-- `certify` with its count, if it is read
abbrev pub certify_of : Result ℤ FieldFault → Option Command
certify_of (Ok count) = Some (Certify (unsigned_abs count))
certify_of (Err fault) = None

-- the word after `certify`: N
abbrev pub certify_command : List (List ℕ) → Option Command
certify_command (count ∷ []) = certify_of (read_int count (pos 1) (pos 1_000))
certify_command _ = None

-- the shapes of the words, each with its command: `run`, `display`, `why`, `flat A END`, `trial NUMBER CYCLES`,
-- `upgrade`, `drive NUMBER CYCLES`, `certify N`, and `check`
unfoldable pub command_of : List (List ℕ) → Option Command
command_of [] = None
command_of (name ∷ more) =
    if bytes_eq name (codes "run") then alone Run more
    else if bytes_eq name (codes "display") then alone Display more
    else if bytes_eq name (codes "why") then alone Why more
    else if bytes_eq name (codes "flat") then flat_command more
    else if bytes_eq name (codes "trial") then numbered_command Trial more
    else if bytes_eq name (codes "upgrade") then alone Upgrade more
    else if bytes_eq name (codes "drive") then numbered_command Drive more
    else if bytes_eq name (codes "certify") then certify_command more
    else if bytes_eq name (codes "check") then alone Check more
    else None

-- the command that the words name, if they name one
abbrev pub asked_by : List (String Global) → Option Command
asked_by words = command_of (map string_bytes words)

-- the numbers of a command are in their ranges
abbrev pub IsCommandInRange : Command → Type 0
IsCommandInRange (Flat decel end) = (5 ≤ decel) × (decel ≤ 400) × (end ≤ longest_track)
IsCommandInRange Run = Unit {0}
IsCommandInRange Display = Unit {0}
IsCommandInRange Why = Unit {0}
IsCommandInRange (Trial seed cycles) = (seed ≤ 65_535) × (1 ≤ cycles) × (cycles ≤ most_records)
IsCommandInRange Upgrade = Unit {0}
IsCommandInRange (Drive seed cycles) = (seed ≤ 65_535) × (1 ≤ cycles) × (cycles ≤ most_records)
IsCommandInRange (Certify count) = (1 ≤ count) × (count ≤ 1_000)
IsCommandInRange Check = Unit {0}
