-- Sooner limits give more triggers, and more triggers more of the emergency command: each trigger is made by `or` and
-- `and` of tests "the front end is past the limit", and each of these holds for the sooner limit wherever it holds for
-- the later.
use Rattle.std.proofs.Common.{ℕ, ℤ, Bool, true, false, ◌||◌, ◌&&◌, not, nat_lt, List, [], ◌∷◌, Option, Some, None, refl}
use Rattle.std.proofs.lemmas.Bool.{false≢true}
use Rattle.std.specs.List.{list_any}
use Rattle.std.specs.Option.{option_map_or}
use Rattle.sdm_num.specs.Fractions.{Fraction}
use Rattle.sdm_rules.specs.declared.commands.Triggers.{Triggers}
use Rattle.sdm_rules.specs.declared.limits.LimitKind.{LimitKind}
use Rattle.sdm_rules.specs.declared.limits.LimitKind.TheVariants.{Ebi, Sbi, Warning, Permitted}
use Rattle.sdm_rules.specs.declared.targets.Target.{Target}
use Rattle.sdm_rules.specs.Limits.{SupervisionLimits, limit_in}
use Rattle.sdm_rules.specs.Margins.{margin_of}
use Rattle.sdm_rules.specs.Targets.{with_margin}
use Rattle.sdm_rules.specs.Triggers.{Situation, above_ceiling, above_release, front_for, is_emergency, is_passed}
use Rattle.sdm_rules.specs.Triggers.{is_past, triggers_of}
use Rattle.sdm_rules.specs.Commands.{emergency_after, is_released}
use Rattle.sdm_rules.specs.Machines.{Implies}

-- ---- what a machine passes before another

-- a front end is past the limit `x`, taken `a` grains earlier, only where it is past `y`, taken `b` grains earlier
pub record IsSooner (a : ℕ) (x : Fraction) (b : ℕ) (y : Fraction) : Type 0 where
  pub passed : (front : ℤ) → Implies (is_past a front x) (is_past b front y)

-- the same where there may be no limit: one that isn't there is never passed
abbrev pub IsSoonerIfAny : ℕ → Option Fraction → ℕ → Option Fraction → Type 0
IsSoonerIfAny a None b y = Unit {0}
IsSoonerIfAny a (Some x) b None = ⊥
IsSoonerIfAny a (Some x) b (Some y) = IsSooner a x b y

-- so of each limit
pub record AreSooner (a : ℕ) (x : SupervisionLimits) (b : ℕ) (y : SupervisionLimits) : Type 0 where
  pub each : (kind : LimitKind) → IsSoonerIfAny a (limit_in kind x) b (limit_in kind y)

-- each trigger holds only where the other's does
pub record TriggersImply (x y : Triggers) : Type 0 where
  pub over : Implies x.over y.over
  pub warn : Implies x.warn y.warn
  pub serv : Implies x.serv y.serv
  pub emer : Implies x.emer y.emer

-- ---- implications of tests

pub same : (a : Bool) → Implies a a
same a = λ e. e

pub or_implies : (a b c d : Bool) → Implies a b → Implies c d → Implies (a || c) (b || d)
or_implies true true c d h k = λ _. refl
or_implies true false c d h k = λ _. absurd (false≢true (h refl))
or_implies false true c d h k = λ _. refl
or_implies false false c d h k = k

pub and_implies : (a b c d : Bool) → Implies a b → Implies c d → Implies (a && c) (b && d)
and_implies false b c d h k = λ e. absurd (false≢true e)
and_implies true true c d h k = k
and_implies true false c d h k = λ _. absurd (false≢true (h refl))

not_implies : (a b : Bool) → Implies a b → Implies (not b) (not a)
not_implies true true h = λ e. e
not_implies true false h = λ _. absurd (false≢true (h refl))
not_implies false b h = λ _. refl

-- where a test implies another, so do the two over a list of targets
pub any_implies : (p q : Target → Bool) (ts : List Target) → ((t : Target) → Implies (p t) (q t)) →
    Implies (list_any p ts) (list_any q ts)
any_implies p q [] h = same false
any_implies p q (t ∷ ts) h = or_implies (p t) (q t) _ _ (h t) (any_implies p q ts h)

-- ---- triggers

module _ (f g : Target → SupervisionLimits) (a b : ℕ) (s : Situation)
    (sooner : (t : Target) → AreSooner a (f t) b (g t)) where
  -- the front end is past a target's limit `x` only where it is past `y`
  past_implies : (front : ℤ) (x y : Option Fraction) → IsSoonerIfAny a x b y →
      Implies (option_map_or (is_past a front) x false) (option_map_or (is_past b front) y false)
  past_implies front None y h = λ e. absurd (false≢true e)
  past_implies front (Some x) None h = absurd h
  past_implies front (Some x) (Some y) h = h.passed front

  -- the ceiling's limit or some target's is passed by `f` only where it is by `g`
  pub passed_implies : (kind : LimitKind) → Implies (is_passed kind f a s) (is_passed kind g b s)
  passed_implies kind =
      or_implies (above_ceiling kind s) _ _ _ (same _)
      (any_implies _ _ s.targets
      (λ t. and_implies (nat_lt (with_margin (margin_of kind) t) s.speed) _ _ _ (same _)
      (past_implies (front_for s.est s.front t.kind) (limit_in kind (f t)) (limit_in kind (g t))
      ((sooner t).each kind))))

  emer_implies : Implies (is_emergency f a s) (is_emergency g b s)
  emer_implies =
      or_implies _ _ _ _
      (or_implies _ _ _ _
      (or_implies _ _ _ _ (passed_implies Ebi) (same s.past_end))
      (same (above_release s)))
      (and_implies _ _ (not s.in_use) _ (passed_implies Sbi) (same _))

  -- sooner limits give more triggers
  pub triggers_imply : TriggersImply (triggers_of f a s) (triggers_of g b s)
  unfolding triggers_of
  triggers_imply = record {
    over = or_implies _ _ _ _ (passed_implies Permitted) (same (above_release s));
    warn = passed_implies Warning;
    serv = passed_implies Sbi;
    emer = emer_implies;
  }

-- ---- the command

-- more triggers and a command that is held give more of the command
pub emergency_implies : (x y : Triggers) (held held' stopped early : Bool) → TriggersImply x y → Implies held held' →
    Implies (emergency_after held x stopped early) (emergency_after held' y stopped early)
unfolding emergency_after
emergency_implies x y held held' stopped early h k =
    or_implies x.emer y.emer _ _ h.emer
    (and_implies held held' _ _ k
    (not_implies (is_released y stopped early) (is_released x stopped early)
    (or_implies stopped stopped _ _ (same stopped)
    (and_implies early early _ _ (same early) (not_implies x.over y.over h.over)))))
