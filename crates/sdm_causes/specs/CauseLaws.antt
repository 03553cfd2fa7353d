-- What causes are worth: they are those of the triggers and of the commands (own).
use Rattle.std.specs.Prelude.{◌≡◌, Bool, true, false, not, ◌&&◌, ◌||◌, ◌==◌, is_some}
use Rattle.sdm_num.specs.Readings.{OdometerReading}
use Rattle.sdm_rules.specs.declared.commands.Held.{Held as Commands}
use Rattle.sdm_rules.specs.declared.targets.Target.{Target}
use Rattle.sdm_rules.specs.Limits.{SupervisionLimits}
use Rattle.sdm_rules.specs.Supervision.{Supervision, after_reading, row_of, situation_of}
use Rattle.sdm_rules.specs.Triggers.{Situation, triggers_of}
use Rattle.sdm_causes.specs.declared.causes.Causes.{Causes}
use Rattle.sdm_causes.specs.declared.causes.Standing.{Standing}
use Rattle.sdm_causes.specs.declared.causes.Standing.TheVariants.{Off, Set, Held}
use Rattle.sdm_causes.specs.declared.causes.Until.{Until}
use Rattle.sdm_causes.specs.declared.causes.Until.TheVariants.{PermittedSpeed, Standstill, StandstillOrPermittedSpeed}
use Rattle.sdm_causes.specs.Causes.{causes_of, emer_by, emergency_until, over_by, serv_by, warn_by}

-- ---- triggers

-- each trigger holds exactly where it has a cause
pub record AreCaused (limits : Target → SupervisionLimits) (s : Situation) : Type 0 where
  pub over : is_some (over_by limits s) ≡ (triggers_of limits 0 s).over
  pub warn : is_some (warn_by limits s) ≡ (triggers_of limits 0 s).warn
  pub serv : is_some (serv_by limits s) ≡ (triggers_of limits 0 s).serv
  pub emer : is_some (emer_by limits s) ≡ (triggers_of limits 0 s).emer

-- in every situation, whatever the limits of targets
abbrev pub LawOfCauses : Type 0
LawOfCauses = (limits : Target → SupervisionLimits) (s : Situation) → AreCaused limits s

-- ---- commands

-- a command is set
abbrev pub is_set : Standing → Bool
is_set Off = false
is_set Set = true
is_set (Held until) = false

-- a command is held
abbrev pub is_held : Standing → Bool
is_held Off = false
is_held Set = false
is_held (Held until) = true

-- what releases a command is so: at standstill or not, above the permitted speed or not (SUBSET-026-3 3.13.10; own
-- table)
abbrev pub is_released_by : Until → Bool → Bool → Bool
is_released_by PermittedSpeed stopped over = not over
is_released_by Standstill stopped over = stopped
is_released_by StandstillOrPermittedSpeed stopped over = stopped || not over

-- how a command stands says why it is commanded: it is commanded exactly where it is set or held; it is set where a
-- cause of it stands, and held where none does, it was commanded before, and what releases it isn't so
pub record IsExplained (is_commanded was is_caused stopped over : Bool) (release : Until) (standing : Standing) : Type 0
  where
    pub commanded : is_commanded ≡ (is_set standing || is_held standing)
    pub set : is_set standing ≡ is_caused
    pub held : is_held standing ≡ (not is_caused && was && not (is_released_by release stopped over))
    pub until : is_held standing ≡ true → standing ≡ Held release

-- the commands after a reading are explained by its causes, from those before it; with no service brake in use that
-- command is neither set nor held
pub record AreExplained (before after : Commands) (in_use stopped early_release : Bool) (why : Causes) : Type 0 where
  pub tco : IsExplained after.tco before.tco (is_some why.warn || is_some why.serv || is_some why.emer) stopped
      (is_some why.over) PermittedSpeed why.tco
  pub sb : IsExplained after.sb (before.sb && in_use) (is_some why.serv && in_use) stopped (is_some why.over)
      PermittedSpeed why.sb
  pub eb : IsExplained after.eb before.eb (is_some why.emer) stopped (is_some why.over)
      (emergency_until early_release) why.eb

-- in every state at every reading, by the causes in the state after it
abbrev pub LawOfStanding : Type 0
LawOfStanding = (s : Supervision) (r : OdometerReading) →
    AreExplained s.commands (row_of s r).held (situation_of s r).in_use (r.speed == 0)
    s.train_and_track.national.early_release (causes_of (after_reading s r) r)
