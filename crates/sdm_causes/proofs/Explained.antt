-- A command that is commanded by its rule stands as the rule says: each is decided by a few flags.
use Rattle.std.proofs.Common.{◌≡◌, Bool, true, false, not, ◌&&◌, ◌||◌, refl, sym, subst, is_some}
use Rattle.std.proofs.lemmas.Bool.{false≢true}
use Rattle.std.specs.Prelude.{◌==◌}
use Rattle.sdm_num.specs.Readings.{OdometerReading, estimate_of}
use Rattle.sdm_rules.specs.declared.commands.Triggers.{Triggers}
use Rattle.sdm_rules.specs.declared.targets.Target.{Target}
use Rattle.sdm_rules.specs.Commands.{commands_after, emergency_after}
use Rattle.sdm_rules.specs.Limits.{SupervisionLimits, computed, limits_of}
use Rattle.sdm_rules.specs.Supervision.{Supervision, after_reading, commands_in, row_in, row_of, situation_of, state_in}
use Rattle.sdm_rules.specs.Data.{TrainAndTrack}
use Rattle.sdm_rules.specs.declared.commands.Held.{Held as Commands}
use Rattle.sdm_causes.specs.declared.causes.Causes.{Causes}
use Rattle.std.proofs.Math.Bool.{and-false, and-true, or-false}
use Rattle.sdm_rules.specs.Triggers.{Situation, triggers_of}
use Rattle.sdm_causes.specs.declared.causes.Until.{Until}
use Rattle.sdm_causes.specs.declared.causes.Until.TheVariants.{PermittedSpeed}
use Rattle.sdm_causes.specs.declared.causes.Standing.TheVariants.{Held}
use Rattle.sdm_causes.specs.Causes.{causes_in, emer_by, emergency_until, over_by, serv_by, standing, warn_by}
use Rattle.sdm_causes.specs.CauseLaws.{AreExplained, IsExplained, LawOfStanding, is_held, is_released_by, is_set}
use Rattle.sdm_causes.proofs.Caused.{caused}

-- ---- a command that is commanded where a cause of it stands, or where it isn't released

module _ (until : Until) where
  commanded_is : (caused keep : Bool) →
      (caused || keep)
      ≡ (is_set (standing (caused || keep) caused until) || is_held (standing (caused || keep) caused until))
  commanded_is true keep = refl
  commanded_is false true = refl
  commanded_is false false = refl

  set_is : (caused keep : Bool) → is_set (standing (caused || keep) caused until) ≡ caused
  set_is true keep = refl
  set_is false true = refl
  set_is false false = refl

  held_is : (caused was released : Bool) →
      is_held (standing (caused || (was && not released)) caused until) ≡ (not caused && was && not released)
  held_is true was released = refl
  held_is false true true = refl
  held_is false true false = refl
  held_is false false released = refl

  until_is : (caused keep : Bool) → is_held (standing (caused || keep) caused until) ≡ true →
      standing (caused || keep) caused until ≡ Held until
  until_is true keep held = absurd (false≢true held)
  until_is false true held = refl
  until_is false false held = absurd (false≢true held)

  -- it is explained
  by_rule : (caused was stopped over : Bool) →
      let keep = was && not (is_released_by until stopped over) in
      IsExplained (caused || keep) was caused stopped over until (standing (caused || keep) caused until)
  by_rule caused was stopped over = record {
    commanded = commanded_is caused (was && not (is_released_by until stopped over));
    set = set_is caused (was && not (is_released_by until stopped over));
    held = held_is caused was (is_released_by until stopped over);
    until = until_is caused (was && not (is_released_by until stopped over));
  }

-- ---- the three commands

not_not : (b : Bool) → not (not b) ≡ b
not_not true = refl
not_not false = refl

-- one that is released by the permitted speed
by_speed : (caused was stopped over : Bool) →
    IsExplained (caused || (was && over)) was caused stopped over PermittedSpeed
    (standing (caused || (was && over)) caused PermittedSpeed)
by_speed caused was stopped over =
    subst (λ (o : Bool). IsExplained (caused || (was && o)) was caused stopped over PermittedSpeed
    (standing (caused || (was && o)) caused PermittedSpeed)) (not_not over)
    (by_rule PermittedSpeed caused was stopped over)

-- and that is commanded only where the service brake is in use
by_use : (caused was stopped over in_use : Bool) →
    IsExplained (in_use && (caused || (was && over))) (was && in_use) (caused && in_use) stopped over PermittedSpeed
    (standing (in_use && (caused || (was && over))) caused PermittedSpeed)
by_use caused was stopped over true =
    subst (λ (w : Bool). IsExplained (caused || (was && over)) w (caused && true) stopped over PermittedSpeed
    (standing (caused || (was && over)) caused PermittedSpeed)) (sym (and-true was))
    (subst (λ (c : Bool). IsExplained (caused || (was && over)) was c stopped over PermittedSpeed
    (standing (caused || (was && over)) caused PermittedSpeed)) (sym (and-true caused))
    (by_speed caused was stopped over))
by_use caused was stopped over false = record {
  commanded = refl;
  set = sym (and-false caused);
  held = unused caused was over;
  until = λ held. absurd (false≢true held);
}
  where
    unused : (caused was over : Bool) → false ≡ (not (caused && false) && (was && false) && not (not over))
    unused true true over = refl
    unused true false over = refl
    unused false true over = refl
    unused false false over = refl

-- the emergency command is released as it is told
released : (early_release stopped over : Bool) →
    is_released_by (emergency_until early_release) stopped over ≡ (stopped || (early_release && not over))
released true stopped over = refl
released false stopped over = sym (or-false stopped)

by_standstill : (caused was stopped over early_release : Bool) →
    let keep = was && not (stopped || (early_release && not over)) in
    IsExplained (caused || keep) was caused stopped over (emergency_until early_release)
    (standing (caused || keep) caused (emergency_until early_release))
by_standstill caused was stopped over early_release =
    subst (λ (x : Bool). IsExplained (caused || (was && not x)) was caused stopped over (emergency_until early_release)
    (standing (caused || (was && not x)) caused (emergency_until early_release)))
    (released early_release stopped over)
    (by_rule (emergency_until early_release) caused was stopped over)

-- ---- after a reading

module _ (limits : Target → SupervisionLimits) (now : Situation) where
  -- the triggers by their causes
  abbrev by_causes : Triggers
  by_causes = record {
    over = is_some (over_by limits now);
    warn = is_some (warn_by limits now);
    serv = is_some (serv_by limits now);
    emer = is_some (emer_by limits now);
  }

  triggers_are : triggers_of limits 0 now ≡ by_causes
  triggers_are =
      let is = caused limits now in
      λ k. record { over = sym is.over k; warn = sym is.warn k; serv = sym is.serv k; emer = sym is.emer k }

module _ (d : TrainAndTrack) (before : Commands) (r : OdometerReading) (now : Situation) where
  abbrev limits : Target → SupervisionLimits
  limits = limits_of computed d (estimate_of r)

  abbrev early : Bool
  early = d.national.early_release

  -- the commands by these triggers
  abbrev after_by : Triggers → Commands
  after_by t = commands_after before t (state_in d r now) (r.speed == 0) early now.in_use

  -- the causes, where these are the commands
  abbrev why : Commands → Causes
  why after = causes_in d after r now

  explained_by : AreExplained before (after_by (by_causes limits now)) now.in_use (r.speed == 0) early
      (why (after_by (by_causes limits now)))
  unfolding commands_after emergency_after causes_in
  explained_by =
      let t = by_causes limits now in
      record {
        tco = by_speed (t.warn || t.serv || t.emer) before.tco (r.speed == 0) t.over;
        sb = by_use t.serv before.sb (r.speed == 0) t.over now.in_use;
        eb = by_standstill t.emer before.eb (r.speed == 0) t.over early;
      }

  pub explained_in : AreExplained before (commands_in d before r now) now.in_use (r.speed == 0) early
      (why (commands_in d before r now))
  unfolding commands_in
  explained_in =
      subst (λ (t : Triggers). AreExplained before (after_by t) now.in_use (r.speed == 0) early (why (after_by t)))
      (sym (triggers_are limits now)) explained_by

-- the reading changes nothing that its situation is made of
same_situation : (s : Supervision) (r : OdometerReading) → situation_of (after_reading s r) r ≡ situation_of s r
unfolding situation_of after_reading
same_situation s r = refl

-- the commands after every reading are explained
pub explained : LawOfStanding
unfolding after_reading row_in
explained s r =
    subst (λ (now : Situation). AreExplained s.commands (row_of s r).held (situation_of s r).in_use (r.speed == 0)
    s.train_and_track.national.early_release
    (causes_in s.train_and_track (commands_in s.train_and_track s.commands r (situation_of s r)) r now))
    (sym (same_situation s r))
    (explained_in s.train_and_track s.commands r (situation_of s r))
