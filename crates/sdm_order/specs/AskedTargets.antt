-- That it is enough to ask some targets of a reading: each other one is stood in for by one of them (own).
use Rattle.std.specs.Prelude.{◌≡◌, ℕ, ◌+◌, ◌<◌, ◌≤◌, Bool, false, List, Option, Some, None, Any, Contains, ⊤}
use Rattle.std.specs.List.{list_all}
use Rattle.sdm_num.specs.Fractions.{Fraction, IsAtMost}
use Rattle.sdm_num.specs.Units.{notches}
use Rattle.sdm_rules.specs.declared.limits.LimitKind.{LimitKind}
use Rattle.sdm_rules.specs.declared.targets.Target.{Target}
use Rattle.sdm_rules.specs.Margins.{ebi_margin, margin_of}
use Rattle.sdm_rules.specs.Reaction.{BuildUp, v_bec}
use Rattle.sdm_rules.specs.Targets.{target_speed, with_margin}
use Rattle.sdm_rules.specs.Limits.{SupervisionLimits, limit_in}
use Rattle.sdm_rules.specs.Triggers.{Situation, front_for, some_passed}
use Rattle.sdm_rules.specs.Supervision.{shown_limit}

-- every target that is asked is one of them all
abbrev pub AreOf : List Target → List Target → Type 0
AreOf all asked = (t : Target) → Contains asked t → Contains all t

-- the limits that there are of targets are fractions
abbrev pub AreFractions : (Target → Option Fraction) → Type 0
AreFractions limit = (t : Target) (x : Fraction) → limit t ≡ Some x → 0 < x.m

-- a limit is at or before another one, if that one is there
abbrev pub IsNoLater : Option Fraction → Option Fraction → Type 0
IsNoLater x None = ⊤
IsNoLater None (Some y) = ⊥
IsNoLater (Some x) (Some y) = IsAtMost x y

-- by its limit of a kind a target `r` stands in for another one `t`: it compares the same front end, the train is above
-- its speed with the margin where it is above the other's, and its limit is at or before the other's
pub record StandsIn (kind : LimitKind) (limits : Target → SupervisionLimits) (s : Situation) (t r : Target) : Type 0
  where
    pub front : front_for s.est s.front r.kind ≡ front_for s.est s.front t.kind
    pub above : with_margin (margin_of kind) t < s.speed → with_margin (margin_of kind) r < s.speed
    pub no_later : IsNoLater (limit_in kind (limits r)) (limit_in kind (limits t))

-- for a printed limit: it is no faster than the train, and its limit is at or before the other's
pub record IsShownFor (speed : ℕ) (limit : Target → Option Fraction) (t r : Target) : Type 0 where
  pub slow : target_speed r ≤ speed
  pub no_later : IsNoLater (limit r) (limit t)

-- Where each target whose speed with the margin is passed is stood in for by one that is asked, those that are asked
-- pass a limit of a kind where all do: so of each trigger and of the indication.
abbrev pub LawOfPassedTargets : Type 0
LawOfPassedTargets =
    (kind : LimitKind) (limits : Target → SupervisionLimits) (shift : ℕ) (s : Situation) (asked : List Target) →
    AreFractions (λ t. limit_in kind (limits t)) → AreOf s.targets asked →
    ((t : Target) → Contains s.targets t → with_margin (margin_of kind) t < s.speed →
    Any (StandsIn kind limits s t) asked) →
    some_passed kind limits shift s ≡ some_passed kind limits shift (record s { targets = asked })

-- And so they print what all print.
abbrev pub LawOfShownTargets : Type 0
LawOfShownTargets =
    (speed : ℕ) (limit : Target → Option Fraction) (all asked : List Target) → AreFractions limit → AreOf all asked →
    ((t : Target) → Contains all t → target_speed t ≤ speed → Any (IsShownFor speed limit t) asked) →
    shown_limit speed all limit ≡ shown_limit speed asked limit

-- Where there is one among them that isn't covered for each that isn't, all are covered where those are.
abbrev pub LawOfCoveredTargets : Type 0
LawOfCoveredTargets =
    (covered : Target → Bool) (all asked : List Target) → AreOf all asked →
    ((t : Target) → Contains all t → covered t ≡ false → Any (λ r. covered r ≡ false) asked) →
    list_all covered all ≡ list_all covered asked

-- Where V_bec for a target of speed 0 is at most 7.5 km/h above the speed, each faster target is met by speed: its
-- V_bec is at most its foot speed, as no EBI margin is less.
abbrev pub LawOfFasterTargets : Type 0
LawOfFasterTargets =
    (b : BuildUp) (v kmh : ℕ) → v ≤ b.speed → v_bec b 0 ≤ v + 112_500 → v < notches kmh →
    v_bec b (notches kmh) ≤ notches kmh + ebi_margin kmh
