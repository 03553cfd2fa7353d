-- The three machines with all their commands, their status and their state (own). They differ in the limits of targets
-- alone. The exact machine has the exact limits, the row machine, which is the supervisor, the computed ones, and the
-- early machine the exact ones one millimetre earlier. All take release speed monitoring from the row machine. Each
-- holds its own commands and status.
use Rattle.std.specs.Prelude.{◌≡◌, ◌≤◌, ℕ, List, [], ◌∷◌, Result, ⊤, is_some, ◌==◌, if◌then◌else◌}
use Rattle.sdm_num.specs.Units.{millimetre}
use Rattle.sdm_num.specs.Readings.{OdometerReading, estimate_of}
use Rattle.sdm_rules.specs.declared.commands.Held.{Held}
use Rattle.sdm_rules.specs.declared.commands.State.{State}
use Rattle.sdm_rules.specs.declared.commands.State.TheVariants.{C, T, R}
use Rattle.sdm_rules.specs.declared.commands.Status.{Status}
use Rattle.sdm_rules.specs.declared.commands.Status.TheVariants.{N, I, O, W, X}
use Rattle.sdm_rules.specs.declared.limits.LimitKind.TheVariants.{Indication}
use Rattle.sdm_rules.specs.declared.faults.EventFault.{EventFault}
use Rattle.sdm_rules.specs.declared.records.Event.{Event}
use Rattle.sdm_rules.specs.declared.records.Event.TheVariants as record_kinds
use Rattle.sdm_rules.specs.declared.rows.Row.{Row}
use Rattle.sdm_rules.specs.Commands.{commands_after}
use Rattle.sdm_rules.specs.Limits.{CurvePlaces, computed, exact_places, limits_of}
use Rattle.sdm_rules.specs.Machines.{Implies, KeepsOrder, must_after, may_after}
use Rattle.sdm_rules.specs.Opening.{IsOpen}
use Rattle.sdm_rules.specs.Records.{Turn, journey_from}
use Rattle.sdm_rules.specs.Supervision.{Supervision, situation_of, row_of}
use Rattle.sdm_rules.specs.Triggers.{triggers_of, some_passed}

-- ---- a machine

-- the state of a machine at a reading, by some way to find places and with every limit so many grains earlier
unfoldable pub state_by : CurvePlaces → ℕ → Supervision → OdometerReading → State
state_by P shift s r =
    let now = situation_of s r in
    let limits = limits_of P s.train_and_track (estimate_of r) in
    if is_some now.release then R
    else if some_passed Indication limits shift now then T
    else C

-- its commands and its status after the reading, from those that it holds
unfoldable pub commands_by : CurvePlaces → ℕ → Supervision → OdometerReading → Held → Held
commands_by P shift s r held =
    let now = situation_of s r in
    commands_after held (triggers_of (limits_of P s.train_and_track (estimate_of r)) shift now) (state_by P shift s r)
    (r.speed == 0) s.train_and_track.national.early_release now.in_use

-- the exact machine
abbrev pub must_hold : Supervision → OdometerReading → Held → Held
must_hold s r held = commands_by exact_places 0 s r held

-- the early machine
abbrev pub may_hold : Supervision → OdometerReading → Held → Held
may_hold s r held = commands_by exact_places millimetre s r held

-- The supervisor is itself such a machine, by the computed places; and the emergency commands of the exact and the
-- early machine are those of the headline.
pub record IsMachineOf (s : Supervision) (r : OdometerReading) : Type 0 where
  pub held : commands_by computed 0 s r s.commands ≡ (row_of s r).held
  pub state : state_by computed 0 s r ≡ (row_of s r).state
  pub must : (h : Held) → (must_hold s r h).eb ≡ must_after s r h.eb
  pub may : (h : Held) → (may_hold s r h).eb ≡ may_after s r h.eb

-- this holds in every state, at every reading
abbrev pub LawOfRowMachine : Type 0
LawOfRowMachine = (s : Supervision) (r : OdometerReading) → IsMachineOf s r

-- ---- the order

-- the order of the status: normal, indication, overspeed, warning, intervention
abbrev pub rank : Status → ℕ
rank N = 0
rank I = 1
rank O = 2
rank W = 3
rank X = 4

-- each command of `a` is one of `b`, and the status of `a` is at most that of `b`
pub record IsNoMore (a b : Held) : Type 0 where
  pub tco : Implies a.tco b.tco
  pub sb : Implies a.sb b.sb
  pub eb : Implies a.eb b.eb
  pub status : rank a.status ≤ rank b.status

-- the exact machine holds no more than the supervisor, and this one no more than the early machine
pub record AllInOrder (must held may : Held) : Type 0 where
  pub needed : IsNoMore must held
  pub allowed : IsNoMore held may

-- where the exact machine is in target speed monitoring, so is the supervisor, in `state`; where it is, so is the early
-- machine
pub record StateInOrder (s : Supervision) (r : OdometerReading) (state : State) : Type 0 where
  pub needed : state_by exact_places 0 s r ≡ T → state ≡ T
  pub allowed : state ≡ T → state_by exact_places millimetre s r ≡ T

-- in order at a row of a reading before which the exact and the early machine hold `must` and `may`
pub record IsRowInOrder (must may : Held) (s : Supervision) (r : OdometerReading) (row : Row) : Type 0 where
  pub commands : AllInOrder (must_hold s r must) row.held (may_hold s r may)
  pub state : StateInOrder s r row.state

-- commands in order stay in order over the reading, whose row this is
abbrev pub KeepsAllOrder : Supervision → OdometerReading → Row → Type 0
KeepsAllOrder s r row = (must may : Held) → AllInOrder must s.commands may → IsRowInOrder must may s r row

-- ALL COMMANDS: over each reading all commands and the status of the three machines stay in order, and their states
-- are.
abbrev pub LawOfAllCommands : Type 0
LawOfAllCommands = (s : Supervision) (r : OdometerReading) → IsOpen s → KeepsAllOrder s r (row_of s r)

-- so the emergency commands alone stay in order, as the headline says
abbrev pub LawOfEmergencyOrder : Type 0
LawOfEmergencyOrder = (s : Supervision) (r : OdometerReading) (row : Row) → KeepsAllOrder s r row →
    KeepsOrder s r row.held.eb

-- ---- every journey

-- the row of a reading is in order; other records have no row
abbrev pub IsTurnInOrder : Held → Held → Supervision → Event → Type 0
IsTurnInOrder must may s (record_kinds.Read r) = IsRowInOrder must may s r (row_of s r)
IsTurnInOrder must may s (record_kinds.Authority a) = ⊤
IsTurnInOrder must may s (record_kinds.Calculated eoa svl trip) = ⊤
IsTurnInOrder must may s (record_kinds.Restrict r) = ⊤
IsTurnInOrder must may s (record_kinds.Revoke id) = ⊤

-- what a machine holds after a record: only a reading changes it
abbrev pub held_over : (Supervision → OdometerReading → Held → Held) → Supervision → Event → Held → Held
held_over machine s (record_kinds.Read r) held = machine s r held
held_over machine s (record_kinds.Authority a) held = held
held_over machine s (record_kinds.Calculated eoa svl trip) held = held
held_over machine s (record_kinds.Restrict r) held = held
held_over machine s (record_kinds.Revoke id) held = held

-- each row is in order, one after the other
abbrev pub AreTurnsInOrder : Held → Held → List Turn → Type 0
AreTurnsInOrder must may [] = ⊤
AreTurnsInOrder must may (t ∷ ts) =
    IsTurnInOrder must may t.before t.event
    × AreTurnsInOrder (held_over must_hold t.before t.event must) (held_over may_hold t.before t.event may) ts

-- ALL COMMANDS over every list of records, by whatever form they are read.
abbrev pub LawOfAllJourneys : Type 0 → Type 0
LawOfAllJourneys Record =
    (form : ℕ → Record → Result Event EventFault) (n : ℕ) (s : Supervision) (must may : Held) (records : List Record) →
    IsOpen s → AllInOrder must s.commands may → AreTurnsInOrder must may (journey_from form n s records).turns
