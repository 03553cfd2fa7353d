-- All commands of the three machines: sooner limits give more triggers, more triggers more commands, and more commands
-- and triggers a higher status.
use Rattle.std.proofs.Common.{◌≡◌, ℕ, ℤ, suc, Bool, true, false, [], ◌∷◌, nat_lt, refl, subst, arith, ◌≤◌}
use Rattle.std.proofs.lemmas.Bool.{false≢true}
use Rattle.std.specs.Option.{option_map_or}
use Rattle.std.specs.Prelude.{Option, Some, None, is_some, if◌then◌else◌, Result, Ok, Err, IfOk}
use Rattle.sdm_num.specs.Units.{millimetre}
use Rattle.sdm_num.specs.Fractions.{Fraction}
use Rattle.sdm_num.specs.Readings.{OdometerReading, estimate_of}
use Rattle.sdm_rules.specs.declared.commands.Held.{Held}
use Rattle.sdm_rules.specs.declared.commands.State.{State}
use Rattle.sdm_rules.specs.declared.commands.State.TheVariants.{C, T, R}
use Rattle.sdm_rules.specs.declared.commands.Status.{Status}
use Rattle.sdm_rules.specs.declared.commands.Status.TheVariants.{N, I, O, W, X}
use Rattle.sdm_rules.specs.declared.commands.Triggers.{Triggers}
use Rattle.sdm_rules.specs.declared.faults.EventCause.{EventCause}
use Rattle.sdm_rules.specs.declared.faults.EventFault.{EventFault}
use Rattle.sdm_rules.specs.declared.records.Event.{Event}
use Rattle.sdm_rules.specs.declared.limits.LimitKind.{LimitKind}
use Rattle.sdm_rules.specs.declared.limits.LimitKind.TheVariants.{Indication}
use Rattle.sdm_rules.specs.declared.targets.Target.{Target}
use Rattle.sdm_rules.specs.Commands.{commands_after, cut_off_after, emergency_after, is_alarm, is_ceiling, service_after}
use Rattle.sdm_rules.specs.Limits.{SupervisionLimits, computed, exact_places, limits_of}
use Rattle.sdm_rules.specs.Machines.{Implies, machine_after}
use Rattle.sdm_rules.specs.Margins.{margin_of}
use Rattle.sdm_rules.specs.Targets.{with_margin}
use Rattle.sdm_rules.specs.Opening.{IsOpen}
use Rattle.sdm_rules.specs.Records.{Journey, go_on, journey_from, step, turn_of, turn_to}
use Rattle.sdm_rules.specs.Supervision.{Supervision, situation_of, row_of, row_in, commands_in, state_in, after_reading}
use Rattle.sdm_rules.specs.Triggers.{Situation, front_for, is_past, some_passed, triggers_of}
use Rattle.sdm_laws.proofs.Rows.Headline.{open_usable, over_kinds, still_open}
use Rattle.sdm_laws.proofs.Rows.MachineOrder.{AreUsable, if_exact_sooner, if_low_sooner, limits_near}
use Rattle.sdm_laws.proofs.Rows.TriggerOrder.{AreSooner, IsSoonerIfAny, TriggersImply, and_implies, any_implies}
use Rattle.sdm_laws.proofs.Rows.TriggerOrder.{emergency_implies, or_implies, same, triggers_imply}
use Rattle.sdm_row_laws.specs.AllCommands.{AllInOrder, AreTurnsInOrder, IsNoMore, IsRowInOrder, IsTurnInOrder}
use Rattle.sdm_row_laws.specs.AllCommands.{LawOfAllCommands, LawOfAllJourneys, LawOfEmergencyOrder, LawOfRowMachine}
use Rattle.sdm_row_laws.specs.AllCommands.{commands_by, held_over, may_hold, must_hold, rank, state_by}

-- ---- the machine of the supervisor

pub row_machine : LawOfRowMachine
unfolding commands_by state_by row_in commands_in state_in commands_after machine_after
row_machine s r = record { held = refl; state = refl; must = λ h. refl; may = λ h. refl }

-- ---- the status

-- the status by four tests: a brake is commanded, warned, over the permitted speed, in ceiling speed monitoring
abbrev status_by : Bool → Bool → Bool → Bool → Status
status_by b w o c = if b then X else if w then W else if o then O else if c then N else I

top : (x : Status) → rank x ≤ 4
top N = omega arith
top I = omega arith
top O = omega arith
top W = omega arith
top X = omega arith

below_warning : (w o c : Bool) → rank (status_by false w o c) ≤ 3
below_warning true o c = omega arith
below_warning false true c = omega arith
below_warning false false true = omega arith
below_warning false false false = omega arith

below_over : (o c : Bool) → rank (status_by false false o c) ≤ 2
below_over true c = omega arith
below_over false true = omega arith
below_over false false = omega arith

-- the status rises with each test, and outside ceiling speed monitoring
rises : (b b' w w' o o' c c' : Bool) → Implies b b' → Implies w w' → Implies o o' → Implies c' c →
    rank (status_by b w o c) ≤ rank (status_by b' w' o' c')
rises b true w w' o o' c c' hb hw ho hc = top (status_by b w o c)
rises true false w w' o o' c c' hb hw ho hc = absurd (false≢true (hb refl))
rises false false w true o o' c c' hb hw ho hc = below_warning w o c
rises false false true false o o' c c' hb hw ho hc = absurd (false≢true (hw refl))
rises false false false false o true c c' hb hw ho hc = below_over o c
rises false false false false true false c c' hb hw ho hc = absurd (false≢true (ho refl))
rises false false false false false false true true hb hw ho hc = omega arith
rises false false false false false false true false hb hw ho hc = omega arith
rises false false false false false false false false hb hw ho hc = omega arith
rises false false false false false false false true hb hw ho hc = absurd (false≢true (hc refl))

-- after a higher status an alarm stays one
alarm_implies : (x y : Status) → rank x ≤ rank y → Implies (is_alarm x) (is_alarm y)
alarm_implies x W le = λ _. refl
alarm_implies x X le = λ _. refl
alarm_implies N y le = λ e. absurd (false≢true e)
alarm_implies I y le = λ e. absurd (false≢true e)
alarm_implies O y le = λ e. absurd (false≢true e)
alarm_implies W N le = absurd (omega arith)
alarm_implies W I le = absurd (omega arith)
alarm_implies W O le = absurd (omega arith)
alarm_implies X N le = absurd (omega arith)
alarm_implies X I le = absurd (omega arith)
alarm_implies X O le = absurd (omega arith)

-- ---- the commands

cut_off_implies : (x y : Triggers) (held held' : Bool) → TriggersImply x y → Implies held held' →
    Implies (cut_off_after held x) (cut_off_after held' y)
cut_off_implies x y held held' h k =
    or_implies _ _ _ _
    (or_implies _ _ _ _ (or_implies x.warn y.warn x.serv y.serv h.warn h.serv) h.emer)
    (and_implies held held' x.over y.over k h.over)

service_implies : (x y : Triggers) (held held' used : Bool) → TriggersImply x y → Implies held held' →
    Implies (service_after held x used) (service_after held' y used)
service_implies x y held held' used h k =
    and_implies used used _ _ (same used)
    (or_implies x.serv y.serv _ _ h.serv (and_implies held held' x.over y.over k h.over))

-- more triggers, more that is held and no more ceiling speed monitoring give more commands and a higher status
more_commands :
    (x y : Triggers) (held held' : Held) (state state' : State) (stopped early used : Bool) → TriggersImply x y →
    IsNoMore held held' → Implies (is_ceiling state') (is_ceiling state) →
    IsNoMore (commands_after held x state stopped early used) (commands_after held' y state' stopped early used)
unfolding commands_after
more_commands x y held held' state state' stopped early used h k c =
    let eb = emergency_implies x y held.eb held'.eb stopped early h k.eb in
    let sb = service_implies x y held.sb held'.sb used h k.sb in
    let alarm = alarm_implies held.status held'.status k.status in
    record {
      tco = cut_off_implies x y held.tco held'.tco h k.tco;
      sb = sb;
      eb = eb;
      status = rises _ _ _ _ x.over y.over (is_ceiling state) (is_ceiling state')
          (or_implies (emergency_after held.eb x stopped early) (emergency_after held'.eb y stopped early) _ _ eb sb)
          (or_implies x.warn y.warn _ _ h.warn (and_implies x.over y.over _ _ h.over alarm)) h.over c;
    }

-- ---- the state

-- the state by the release speed and whether a target is indicated
abbrev by_indication : Option ℕ → Bool → State
by_indication o b = if is_some o then R else if b then T else C

-- more that is indicated gives no more ceiling speed monitoring
fewer_ceiling : (o : Option ℕ) (b b' : Bool) → Implies b b' →
    Implies (is_ceiling (by_indication o b')) (is_ceiling (by_indication o b))
fewer_ceiling (Some x) b b' h = same _
fewer_ceiling None b true h = λ e. absurd (false≢true e)
fewer_ceiling None true false h = absurd (false≢true (h refl))
fewer_ceiling None false false h = same _

-- and more target speed monitoring
more_targets : (o : Option ℕ) (b b' : Bool) → Implies b b' → by_indication o b ≡ T → by_indication o b' ≡ T
more_targets (Some x) b b' h e = absurd cc
more_targets None b true h e = refl
more_targets None true false h e = absurd (false≢true (h refl))
more_targets None false false h e = absurd cc

-- ---- the machines

-- a limit that isn't there is passed by none, and a sooner one wherever the later is
any_passed : (a b : ℕ) (front : ℤ) (x y : Option Fraction) → IsSoonerIfAny a x b y →
    Implies (option_map_or (is_past a front) x false) (option_map_or (is_past b front) y false)
any_passed a b front None y h = λ e. absurd (false≢true e)
any_passed a b front (Some x) None h = absurd h
any_passed a b front (Some x) (Some y) h = h.passed front

-- where the limits of a kind are sooner, more targets are passed by it
some_implies : (f g : Target → SupervisionLimits) (a b : ℕ) (now : Situation) →
    ((t : Target) → AreSooner a (f t) b (g t)) → (kind : LimitKind) →
    Implies (some_passed kind f a now) (some_passed kind g b now)
some_implies f g a b now sooner kind =
    any_implies _ _ now.targets
    (λ t. and_implies (nat_lt (with_margin (margin_of kind) t) now.speed) _ _ _ (same _)
    (any_passed a b (front_for now.est now.front t.kind) _ _ ((sooner t).each kind)))

module _ (s : Supervision) (r : OdometerReading) (usable : AreUsable s.train_and_track) where
  abbrev low : Target → SupervisionLimits
  low = limits_of computed s.train_and_track (estimate_of r)

  abbrev exact : Target → SupervisionLimits
  exact = limits_of exact_places s.train_and_track (estimate_of r)

  -- the exact limits are passed no sooner than the computed ones
  needed_limits : (t : Target) → AreSooner 0 (exact t) 0 (low t)
  needed_limits t =
      record { each = λ kind. if_exact_sooner _ _ ((limits_near s.train_and_track usable r t).each kind) }

  -- and these no sooner than those a millimetre before the exact ones
  allowed_limits : (t : Target) → AreSooner 0 (low t) millimetre (exact t)
  allowed_limits t =
      record { each = λ kind. if_low_sooner _ _ ((limits_near s.train_and_track usable r t).each kind) }

  -- the exact machine's triggers are among the supervisor's
  needed_triggers : TriggersImply (triggers_of exact 0 (situation_of s r)) (triggers_of low 0 (situation_of s r))
  needed_triggers = triggers_imply exact low 0 0 (situation_of s r) needed_limits

  -- and these among the early machine's
  allowed_triggers : TriggersImply (triggers_of low 0 (situation_of s r))
      (triggers_of exact millimetre (situation_of s r))
  allowed_triggers = triggers_imply low exact 0 millimetre (situation_of s r) allowed_limits

  needed_indication : Implies (some_passed Indication exact 0 (situation_of s r))
      (some_passed Indication low 0 (situation_of s r))
  needed_indication = some_implies exact low 0 0 (situation_of s r) needed_limits Indication

  allowed_indication : Implies (some_passed Indication low 0 (situation_of s r))
      (some_passed Indication exact millimetre (situation_of s r))
  allowed_indication = some_implies low exact 0 millimetre (situation_of s r) allowed_limits Indication

  -- over the reading all stay in order
  in_order : (must may : Held) → AllInOrder must s.commands may →
      IsRowInOrder must may s r (row_of s r)
  unfolding commands_by state_by row_in commands_in state_in
  in_order must may h =
      let now = situation_of s r in
      record {
        commands = record {
          needed = more_commands _ _ must s.commands _ _ _ _ _ needed_triggers h.needed
              (fewer_ceiling now.release _ _ needed_indication);
          allowed = more_commands _ _ s.commands may _ _ _ _ _ allowed_triggers h.allowed
              (fewer_ceiling now.release _ _ allowed_indication);
        };
        state = record {
          needed = more_targets now.release _ _ needed_indication;
          allowed = more_targets now.release _ _ allowed_indication;
        };
      }

pub all_commands : LawOfAllCommands
all_commands s r o must may h = in_order s r (open_usable s o) must may h

-- the emergency commands alone
pub emergency_order : LawOfEmergencyOrder
emergency_order s r row keeps must may h =
    let least : Held = record { tco = false; sb = false; eb = must; status = N } in
    let most : Held = record { tco = true; sb = true; eb = may; status = X } in
    let none : (b : Bool) → Implies false b = λ b e. absurd (false≢true e) in
    let all : AllInOrder least s.commands most = record {
      needed = record { tco = none _; sb = none _; eb = h.needed; status = omega arith };
      allowed = record { tco = λ e. refl; sb = λ e. refl; eb = h.allowed; status = top s.commands.status };
    } in
    let after = (keeps least most all).commands in
    let machine = row_machine s r in
    record {
      needed = subst (λ (b : Bool). Implies b row.held.eb) (machine.must least) after.needed.eb;
      allowed = subst (λ (b : Bool). Implies row.held.eb b) (machine.may most) after.allowed.eb;
    }

-- ---- every journey

-- a record is in order, and leads to an open state in which the commands are in order
record Leads (must may : Held) (s : Supervision) (e : Event) (t : Supervision) : Type 0 where
  turn : IsTurnInOrder must may s e
  open_after : IsOpen t
  order : AllInOrder (held_over must_hold s e must) t.commands (held_over may_hold s e may)

leads : (must may : Held) (s : Supervision) → IsOpen s → AllInOrder must s.commands may → (e : Event) →
    IfOk (step s e) (Leads must may s e)
unfolding after_reading row_in
leads must may s o h =
    over_kinds (Leads must may s) s
    (λ r. (let row = all_commands s r o must may h in
    record { turn = row; open_after = still_open s _ refl o; order = row.commands }))
    (λ a. record { turn = tt; open_after = still_open s _ refl o; order = h })
    (λ eoa svl trip none. record { turn = tt; open_after = still_open s _ refl o; order = h })
    (λ r. record { turn = tt; open_after = still_open s _ refl o; order = h })
    (λ id. record { turn = tt; open_after = still_open s _ refl o; order = h })

-- what is left of a journey is in order from any open state on in which the commands are
abbrev IsLaterInOrder : (Supervision → Journey) → Type 0
IsLaterInOrder rest = (t : Supervision) (must may : Held) → IsOpen t → AllInOrder must t.commands may →
    AreTurnsInOrder must may (rest t).turns

after_step :
    (n : ℕ) (must may : Held) (s : Supervision) (e : Event) (r : Result Supervision EventCause)
    (rest : Supervision → Journey) →
    IfOk r (Leads must may s e) → IsLaterInOrder rest → AreTurnsInOrder must may (go_on n (turn_to s e r) rest).turns
after_step n must may s e (Ok t) rest h later = (h.turn, later t _ _ h.open_after h.order)
after_step n must may s e (Err cause) rest h later = tt

after_record :
    (n : ℕ) (must may : Held) (s : Supervision) (e : Result Event EventFault) (rest : Supervision → Journey) →
    IsOpen s → AllInOrder must s.commands may → IsLaterInOrder rest →
    AreTurnsInOrder must may (go_on n (turn_of s e) rest).turns
after_record n must may s (Ok e) rest o h later =
    after_step n must may s e (step s e) rest (leads must may s o h e) later
after_record n must may s (Err fault) rest o h later = tt

pub all_journeys : {Record : Type 0} → LawOfAllJourneys Record
all_journeys form n s must may [] o h = tt
all_journeys form n s must may (x ∷ xs) o h =
    after_record n must may s (form n x) (λ t. journey_from form (suc n) t xs) o h
    (λ t m m' o' h'. all_journeys form (suc n) t m m' xs o' h')
