-- What a driver is shown and what a row commands follow from the same limits: at the reading's own speed a limit that
-- is shown is passed exactly where it triggers (own).
use Rattle.std.specs.Prelude.{◌≡◌, ℕ, Bool, not, ◌&&◌, ◌||◌}
use Rattle.sdm_num.specs.Units.{notches}
use Rattle.sdm_num.specs.Readings.{OdometerReading, estimate_of}
use Rattle.sdm_rules.specs.declared.commands.Triggers.{Triggers}
use Rattle.sdm_rules.specs.declared.display.LimitName.{LimitName}
use Rattle.sdm_rules.specs.declared.display.LimitName.TheVariants.{Ebi, Permitted, Sbi}
use Rattle.sdm_rules.specs.Display.{passes_limit}
use Rattle.sdm_rules.specs.Limits.{computed, limits_of}
use Rattle.sdm_rules.specs.Supervision.{Supervision, situation_of}
use Rattle.sdm_rules.specs.Triggers.{triggers_of}

-- the triggers of a reading, by the computed limits
abbrev pub triggers_at : Supervision → OdometerReading → Triggers
triggers_at s r = triggers_of (limits_of computed s.train_and_track (estimate_of r)) 0 (situation_of s r)

-- a limit would be passed at a speed in km/h, instead of the reading's
abbrev pub would_pass : Supervision → OdometerReading → LimitName → ℕ → Bool
would_pass s r name kmh = passes_limit s.train_and_track r (situation_of s r) name kmh

-- at a speed in km/h that is the reading's own: over the permitted speed where the permitted limit is passed, and past
-- an SBI where the SBI is; an emergency where the EBI is passed, the min safe front end is past the EOA, or the SBI is
-- passed with no service brake in use
pub record TriggersWhatIsPassed (s : Supervision) (r : OdometerReading) (kmh : ℕ) : Type 0 where
  pub over : (triggers_at s r).over ≡ would_pass s r Permitted kmh
  pub serv : (triggers_at s r).serv ≡ would_pass s r Sbi kmh
  pub emer : (triggers_at s r).emer
      ≡ (would_pass s r Ebi kmh || (situation_of s r).past_end || (would_pass s r Sbi kmh && not (situation_of s r).in_use))

-- this holds at each reading of a whole speed in km/h
abbrev pub IsShownAsTriggered : Supervision → OdometerReading → Type 0
IsShownAsTriggered s r = (kmh : ℕ) → notches kmh ≡ r.speed → TriggersWhatIsPassed s r kmh

-- WHAT IS SHOWN TRIGGERS, at every reading
abbrev pub LawOfShownTriggers : Type 0
LawOfShownTriggers = (s : Supervision) (r : OdometerReading) → IsShownAsTriggered s r
