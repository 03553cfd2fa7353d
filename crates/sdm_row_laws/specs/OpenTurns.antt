-- Each turn of a journey begins in an open state, so what is true of every reading in one is true of each row of every
-- journey (own).
use Rattle.std.specs.Prelude.{◌≡◌, ℕ, List, All, Result, ⊤, IsTrue, false}
use Rattle.sdm_num.specs.Readings.{OdometerReading}
use Rattle.sdm_rules.specs.declared.faults.EventFault.{EventFault}
use Rattle.sdm_rules.specs.declared.records.Event.{Event}
use Rattle.sdm_rules.specs.declared.records.Event.TheVariants as record_kinds
use Rattle.sdm_rules.specs.Headline.{AreTurnsSafe}
use Rattle.sdm_rules.specs.Opening.{IsOpen}
use Rattle.sdm_rules.specs.Records.{Turn, journey_from}
use Rattle.sdm_rules.specs.Supervision.{Supervision, row_of}
use Rattle.sdm_rules.specs.Commands.{nothing_held}
use Rattle.sdm_row_laws.specs.AllCommands.{AreTurnsInOrder}
use Rattle.sdm_laws.specs.Falls.{MeetsFalls}
use Rattle.sdm_laws.specs.PrintedLimits.{ArePrinted}
use Rattle.sdm_row_laws.specs.CoveredFalls.{MeetsEachFallIfCovered}
use Rattle.sdm_row_laws.specs.NearLimits.{AreNear, at_kmh}
use Rattle.sdm_row_laws.specs.ShownTriggers.{IsShownAsTriggered}
use Rattle.sdm_row_laws.specs.ServiceStop.{StopsIfFree}

-- a property of readings holds for the reading of a turn; a turn of another record has it always
abbrev pub OfReading : (Supervision → OdometerReading → Type 0) → Supervision → Event → Type 0
OfReading P s (record_kinds.Read r) = P s r
OfReading P s (record_kinds.Authority a) = ⊤
OfReading P s (record_kinds.Calculated eoa svl trip) = ⊤
OfReading P s (record_kinds.Restrict r) = ⊤
OfReading P s (record_kinds.Revoke id) = ⊤

-- a property holds for each reading of every list of records, by whatever form they are read
abbrev pub OfJourneys : (Supervision → OdometerReading → Type 0) → Type 0 → Type 0
OfJourneys P Record =
    (form : ℕ → Record → Result Event EventFault) (n : ℕ) (s : Supervision) (records : List Record) → IsOpen s →
    All (λ t. OfReading P t.before t.event) (journey_from form n s records).turns

-- a covered row without an emergency command promises each fall
abbrev pub MeetsFallsIfFree : Supervision → OdometerReading → Type 0
MeetsFallsIfFree s r = IsTrue (row_of s r).covered → (row_of s r).held.eb ≡ false → MeetsFalls s r

-- the computed limits of a reading are near the exact ones, also those at each other speed in km/h that a driver is
-- shown; and so are those that its row prints
pub record HasNearLimits (s : Supervision) (r : OdometerReading) : Type 0 where
  pub computed : AreNear s.train_and_track r
  pub at_speeds : (kmh : ℕ) → AreNear s.train_and_track (at_kmh kmh r)
  pub printed : ArePrinted s r

-- each reading is taken in an open state
abbrev pub LawOfOpenTurns : Type 0 → Type 0
LawOfOpenTurns Record = OfJourneys (λ s r. IsOpen s) Record

-- THE EOA over every journey
abbrev pub LawOfServiceJourneys : Type 0 → Type 0
LawOfServiceJourneys Record = OfJourneys StopsIfFree Record

-- NO FALL DROPS OUT, over every journey
abbrev pub LawOfFallJourneys : Type 0 → Type 0
LawOfFallJourneys Record = OfJourneys MeetsFallsIfFree Record

-- COVERED AND BRAKING, over every journey
abbrev pub LawOfCoveredFallJourneys : Type 0 → Type 0
LawOfCoveredFallJourneys Record = OfJourneys MeetsEachFallIfCovered Record

-- WHAT IS SHOWN TRIGGERS, over every journey
abbrev pub LawOfShownJourneys : Type 0 → Type 0
LawOfShownJourneys Record = OfJourneys IsShownAsTriggered Record

-- the limits of each reading, over every journey
abbrev pub LawOfLimitJourneys : Type 0 → Type 0
LawOfLimitJourneys Record = OfJourneys HasNearLimits Record

-- WHAT A COMMAND SAYS OF ITS ROWS, from no command held on: the headline; all commands and states in order at each row;
-- the EOA from each row of a moving train that commands no brake; each fall from each covered row, without an emergency
-- command and with one; limits near the exact ones; and at the reading's own speed a limit that is shown is passed
-- exactly where it triggers.
pub record AreTurnsPromised (turns : List Turn) : Type 0 where
  pub safe : AreTurnsSafe false false turns
  pub in_order : AreTurnsInOrder nothing_held nothing_held turns
  pub eoa : All (λ t. OfReading StopsIfFree t.before t.event) turns
  pub falls : All (λ t. OfReading MeetsFallsIfFree t.before t.event) turns
  pub each_fall : All (λ t. OfReading MeetsEachFallIfCovered t.before t.event) turns
  pub limits : All (λ t. OfReading HasNearLimits t.before t.event) turns
  pub shown : All (λ t. OfReading IsShownAsTriggered t.before t.event) turns

-- this holds for every list of records, by whatever form they are read, in an open state in which nothing is held
abbrev pub LawOfPromisedTurns : Type 0 → Type 0
LawOfPromisedTurns Record =
    (form : ℕ → Record → Result Event EventFault) (n : ℕ) (s : Supervision) (records : List Record) → IsOpen s →
    s.commands ≡ nothing_held → AreTurnsPromised (journey_from form n s records).turns
