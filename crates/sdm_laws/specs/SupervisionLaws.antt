-- The laws of openings, and of supervision as statements over an accepted supervision state alone (own).
use Rattle.std.specs.Prelude.{◌≡◌, ◌⊎◌, ◌<◌, ◌≤◌, ℕ, ℤ, Bool, true, false, IsTrue, IfOk, List, Option, Some}
use Rattle.std.specs.Prelude.{None, Result, ⊤}
use Rattle.sdm_num.specs.Units.{millimetre}
use Rattle.sdm_num.specs.Fractions.{Fraction, IsAtMost, more}
use Rattle.sdm_num.specs.Bounds.{IsEarlyFor}
use Rattle.sdm_num.specs.Readings.{OdometerReading, estimate_of}
use Rattle.sdm_rules.specs.declared.authorities.Authority.{Authority}
use Rattle.sdm_rules.specs.declared.authorities.Authority.TheVariants.{Stop}
use Rattle.sdm_rules.specs.declared.data.SlopeKind.{SlopeKind}
use Rattle.sdm_rules.specs.declared.data.SlopeKind.TheVariants.{Safe}
use Rattle.sdm_rules.specs.declared.faults.EventFault.{EventFault}
use Rattle.sdm_rules.specs.declared.faults.OpenFault.{OpenFault}
use Rattle.sdm_rules.specs.declared.records.Event.{Event}
use Rattle.sdm_rules.specs.Slopes.{IsUsable}
use Rattle.sdm_rules.specs.Curves.{exact, stepped, most_slack}
use Rattle.sdm_rules.specs.Data.{TrainAndTrack, HasBands}
use Rattle.sdm_rules.specs.Decelerations.{slopes_of}
use Rattle.sdm_rules.specs.declared.targets.Target.{Target}
use Rattle.sdm_rules.specs.Limits.{SupervisionLimits, computed, exact_places, limit_in, limits_of, release_start}
use Rattle.sdm_rules.specs.Supervision.{Supervision, opening, row_of, situation_of}
use Rattle.sdm_rules.specs.Display.{passes_limit}
use Rattle.sdm_rules.specs.declared.display.LimitName.{LimitName}
use Rattle.sdm_rules.specs.declared.limits.LimitKind.{LimitKind}
use Rattle.sdm_rules.specs.Machines.{Implies, KeepsOrder, InOrder, held_after}
use Rattle.sdm_rules.specs.Records.{step, journey_from}
use Rattle.sdm_rules.specs.Stop.{IsSafe}
use Rattle.sdm_rules.specs.Within.{StopsByItsSvl, is_within_svl}
use Rattle.sdm_rules.specs.Release.{IsReleaseSpeed, calculated}
use Rattle.sdm_rules.specs.Promises.{BeginsReleaseMonitoring, HasOnlyGaps, IsWithinCeiling}
use Rattle.sdm_rules.specs.Opening.{IsAccepted, IsAcceptedKind, IsOpen, IsOpenFault}
use Rattle.sdm_rules.specs.Headline.{IsSupervised, AreTurnsSafe}

-- the slopes of accepted data are usable
abbrev pub LawOfAcceptedSlopes : Type 0
LawOfAcceptedSlopes = (kind : SlopeKind) (d : TrainAndTrack) → HasBands d.train.bands → IsAcceptedKind kind d →
    IsUsable (slopes_of kind d)

-- each opening is either accepted or has a first fault, and never both or two
pub record IsDecided (d : TrainAndTrack) (a : Authority) : Type 0 where
  pub decided : IsAccepted d a ⊎ ((fault : OpenFault) × IsOpenFault d a fault)
  pub not_both : (fault : OpenFault) → IsAccepted d a → IsOpenFault d a fault → ⊥
  pub one_fault : (fault fault' : OpenFault) → IsOpenFault d a fault → IsOpenFault d a fault' → fault ≡ fault'

-- of all data and authorities the opening is either accepted or has one first fault
abbrev pub LawOfOpening : Type 0
LawOfOpening = (d : TrainAndTrack) (a : Authority) → IsDecided d a

-- an accepted opening is open, and a state stays open over each record: no record changes the data
pub record IsKeptOpen : Type 0 where
  pub opens : (d : TrainAndTrack) (a : Authority) → HasBands d.train.bands → IsAccepted d a → IsOpen (opening d a)
  pub stays : (s : Supervision) (e : Event) → IsOpen s → IfOk (step s e) IsOpen

-- on accepted slopes each computed place of a curve lies at most `most_slack` grains before the exact one, never past
-- it
abbrev pub LawOfNearness : Type 0
LawOfNearness = (kind : SlopeKind) (d : TrainAndTrack) → HasBands d.train.bands → IsAcceptedKind kind d →
    (f : ℤ) (w v : ℕ) → IsEarlyFor (record { at = stepped (slopes_of kind d) f w v; slack = most_slack })
    (exact (slopes_of kind d) f w v)

-- `low` is at most `x`, and at most `most_slack` grains before it
pub record IsJustBefore (low x : Fraction) : Type 0 where
  pub low_positive : 0 < low.m
  pub positive : 0 < x.m
  pub not_past : IsAtMost low x
  pub near : IsAtMost x (more low most_slack)

-- both places exist or neither does; the first is just before the second
abbrev pub AreJustBeforeIfAny : Option Fraction → Option Fraction → Type 0
AreJustBeforeIfAny None None = ⊤
AreJustBeforeIfAny None (Some x) = ⊥
AreJustBeforeIfAny (Some low) None = ⊥
AreJustBeforeIfAny (Some low) (Some x) = IsJustBefore low x

-- each limit lies just before the other's (SUBSET-026-3 3.13.9.3)
pub record AreLimitsJustBefore (low x : SupervisionLimits) : Type 0 where
  pub each : (kind : LimitKind) → AreJustBeforeIfAny (limit_in kind low) (limit_in kind x)

-- each computed limit, and the computed start of release speed monitoring, is at most the exact one and less than a
-- millimetre before it (SUBSET-026-3 3.13.9.3, 3.13.9.4)
pub record AreEarly (d : TrainAndTrack) (r : OdometerReading) : Type 0 where
  pub limits : (t : Target) →
      AreLimitsJustBefore (limits_of computed d (estimate_of r) t) (limits_of exact_places d (estimate_of r) t)
  pub release_start : (eoa svl release : ℕ) →
      IsJustBefore (release_start computed d eoa svl release) (release_start exact_places d eoa svl release)
  pub fine : most_slack < millimetre

-- computed limits are early for the exact ones, and so is the start of release speed monitoring
abbrev pub LawOfLimits : Type 0
LawOfLimits = (s : Supervision) (r : OdometerReading) → IsOpen s → AreEarly s.train_and_track r

-- where the exact machine commands the emergency brake, so does the supervisor; where the supervisor does, so does the
-- machine with every limit one millimetre earlier
abbrev pub LawOfMachines : Type 0
LawOfMachines = (s : Supervision) (r : OdometerReading) → IsOpen s → KeepsOrder s r (held_after s r)

-- from every covered row each motion stops by the supervised location and meets each speed target
abbrev pub LawOfStop : Type 0
LawOfStop = (s : Supervision) (r : OdometerReading) → IsOpen s → IsTrue (row_of s r).covered → IsSafe s r

-- from every reading within the SvL each motion stops at or before it
abbrev pub LawOfWithin : Type 0
LawOfWithin = (s : Supervision) (r : OdometerReading) → IsOpen s → IsTrue (is_within_svl s r) → StopsByItsSvl s r

-- under a stop without a release speed, a reading of a moving train that isn't within the SvL commands the emergency
-- brake
abbrev pub LawOfCommand : Type 0
LawOfCommand =
    (s : Supervision) (r : OdometerReading) (eoa svl : ℕ) → s.authority ≡ Stop eoa svl 0 →
    is_within_svl s r ≡ false → 0 < r.speed → (row_of s r).held.eb ≡ true

-- gaps are all that keeps a row from being covered where no emergency brake is commanded and the train moves
abbrev pub LawOfGaps : Type 0
LawOfGaps = (s : Supervision) (r : OdometerReading) → (row_of s r).held.eb ≡ false → HasOnlyGaps s r

-- where no emergency brake is commanded, the speed is at most the ceiling with its EBI margin
abbrev pub LawOfCeiling : Type 0
LawOfCeiling = (s : Supervision) (r : OdometerReading) → (row_of s r).held.eb ≡ false → IsWithinCeiling r (row_of s r)

-- release speed monitoring begins at its exact start or less than a millimetre before it
abbrev pub LawOfReleaseStart : Type 0
LawOfReleaseStart = (s : Supervision) (r : OdometerReading) → IsOpen s → BeginsReleaseMonitoring s r

-- a train that is tripped at the calculated release speed stops before the SvL, and the next whole speed doesn't fit by
-- limits one millimetre earlier
abbrev pub LawOfReleaseSpeed : Type 0
LawOfReleaseSpeed =
    (d : TrainAndTrack) (svl trip : ℕ) → HasBands d.train.bands → IsAcceptedKind Safe d → trip ≤ svl →
    IsReleaseSpeed d svl trip (calculated d svl trip)

-- at speed 0 the limit isn't passed, and once it is passed at a speed, it is at every greater one
pub record IsPassedUpwards (s : Supervision) (r : OdometerReading) (name : LimitName) : Type 0 where
  pub standstill : passes_limit s.train_and_track r (situation_of s r) name 0 ≡ false
  pub upwards : (v v' : ℕ) → v ≤ v' →
      Implies (passes_limit s.train_and_track r (situation_of s r) name v)
      (passes_limit s.train_and_track r (situation_of s r) name v')

-- a faster train passes every limit that a slower one would pass where it is, and a standing one none
abbrev pub LawOfPassing : Type 0
LawOfPassing = (s : Supervision) (r : OdometerReading) (name : LimitName) → IsOpen s → IsPassedUpwards s r name

-- THE HEADLINE of one reading
abbrev pub LawOfSupervision : Type 0
LawOfSupervision = (s : Supervision) (r : OdometerReading) → IsOpen s → IsSupervised s r

-- THE HEADLINE over every journey: from an accepted supervision state on, in which the three commands stand in order,
-- each turn is safe, whatever the records and by whatever form they are read
abbrev pub LawOfJourneys : Type 0 → Type 0
LawOfJourneys Record =
    (form : ℕ → Record → Result Event EventFault) (n : ℕ) (s : Supervision) (must may : Bool) (records : List Record) →
    IsOpen s → InOrder must s.commands.eb may → AreTurnsSafe must may (journey_from form n s records).turns
