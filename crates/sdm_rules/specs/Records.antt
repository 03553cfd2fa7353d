-- The supervision state after each record, or why the record is refused (own).
use Rattle.std.specs.Prelude.{ℕ, suc, ℤ, pos, List, [], ◌∷◌, Option, Some, None, Result, Ok, Err, ◌||◌, nat_lt, nat_le}
use Rattle.std.specs.Prelude.{◌==◌, int_lt, filter_map, option_map, if◌then◌else◌}
use Rattle.std.specs.Ordering.{nat_cmp}
use Rattle.std.specs.FinMap as finite
use Rattle.sdm_rules.specs.declared.authorities.Authority.{Authority}
use Rattle.sdm_rules.specs.declared.authorities.Authority.TheVariants.{Stop, Limit}
use Rattle.sdm_rules.specs.declared.restrictions.Restriction.{Restriction}
use Rattle.sdm_rules.specs.declared.records.Event.{Event}
use Rattle.sdm_rules.specs.declared.records.Event.TheVariants as record_kinds
use Rattle.sdm_rules.specs.declared.faults.EventFault.{EventFault}
use Rattle.sdm_rules.specs.declared.faults.EventFault.TheVariants.{TooMany}
use Rattle.sdm_rules.specs.declared.faults.AuthorityFault.{AuthorityFault}
use Rattle.sdm_rules.specs.declared.faults.AuthorityFault.TheVariants.{SvlBeforeEoa, BeyondTrack, BadSpeed}
use Rattle.sdm_rules.specs.declared.faults.TripFault.{TripFault}
use Rattle.sdm_rules.specs.declared.faults.TripFault.TheVariants as trip_faults
use Rattle.sdm_rules.specs.declared.faults.RestrictFault.{RestrictFault}
use Rattle.sdm_rules.specs.declared.faults.RestrictFault.TheVariants.{Full, IdInUse, Value}
use Rattle.sdm_rules.specs.declared.faults.RevokeFault.{RevokeFault}
use Rattle.sdm_rules.specs.declared.faults.RevokeFault.TheVariants.{Unknown}
use Rattle.sdm_rules.specs.declared.faults.CycleFault.{CycleFault}
use Rattle.sdm_rules.specs.declared.faults.CycleFault.TheVariants.{TimeBack}
use Rattle.sdm_rules.specs.declared.faults.EventCause.{EventCause}
use Rattle.sdm_rules.specs.declared.faults.EventCause.TheVariants as causes
use Rattle.sdm_rules.specs.declared.rows.Row.{Row}
use Rattle.sdm_rules.specs.Supervision.{Supervision, row_of, after_reading, after_authority, after_restriction}
use Rattle.sdm_rules.specs.Supervision.{after_revocation}
use Rattle.sdm_rules.specs.Ranges.{or_else, top_kmh}
use Rattle.sdm_rules.specs.Release.{calculated}

-- ---- refusals

-- the first fault of an authority, for a track of a length in cm
abbrev pub authority_fault : ℤ → Authority → Option AuthorityFault
authority_fault length_cm (Stop eoa svl release) =
    if nat_lt svl eoa then Some SvlBeforeEoa
    else if int_lt length_cm (pos svl) then Some BeyondTrack
    else if nat_lt top_kmh release then Some BadSpeed
    else None
authority_fault length_cm (Limit loa speed) =
    if int_lt length_cm (pos loa) then Some BeyondTrack
    else if (speed == 0) || nat_lt top_kmh speed then Some BadSpeed
    else None

-- the first fault of a stop whose release speed is calculated, for a track of a length in cm: that of a stop at these
-- places, then that of the place of the trip
abbrev pub trip_fault : ℤ → ℕ → ℕ → ℕ → Option TripFault
trip_fault length_cm eoa svl trip =
    or_else (option_map trip_faults.Authority (authority_fault length_cm (Stop eoa svl 0)))
    (if nat_lt trip eoa || nat_lt svl trip then Some trip_faults.BadTrip else None)

-- the most restrictions that are held
abbrev pub most_restrictions : ℕ
most_restrictions = 32

-- the first fault of a restriction beside those that are held
abbrev pub restrict_fault : ℤ → finite.FinMap nat_cmp Restriction → Restriction → Option RestrictFault
restrict_fault length_cm restrictions r =
    if nat_le most_restrictions (finite.len restrictions) then Some Full
    else if finite.contains_key restrictions r.id then Some (IdInUse r.id)
    else if nat_le r.end r.start || int_lt length_cm (pos r.end) then Some Value
    else None

-- the fault of a revocation that names no restriction that is held
abbrev pub revoke_fault : finite.FinMap nat_cmp Restriction → ℕ → Option RevokeFault
revoke_fault restrictions id = if finite.contains_key restrictions id then None else Some (Unknown id)

-- the fault of a time before that of the last reading
abbrev pub time_fault : Option ℕ → ℕ → Option CycleFault
time_fault None time = None
time_fault (Some last) time = if nat_lt time last then Some (TimeBack last time) else None

-- the cause of the refusal of a record that gives a stop with the place of a trip
abbrev pub trip_cause : TripFault → EventCause
trip_cause (trip_faults.Authority fault) = causes.Authority fault
trip_cause trip_faults.BadTrip = causes.BadTrip

-- the cause of the refusal of a record for its time
abbrev pub time_cause : CycleFault → EventCause
time_cause (TimeBack last time) = causes.TimeBack last time

-- ---- one record

-- the state, unless there is a fault, which is then the cause of a refusal
abbrev pub unless : {F : Type 0} → (F → EventCause) → Option F → Supervision → Result Supervision EventCause
unless cause None s = Ok s
unless cause (Some fault) s = Err (cause fault)

-- the state after a record, or why it is refused
unfoldable pub step : Supervision → Event → Result Supervision EventCause
step s (record_kinds.Read r) = unless time_cause (time_fault s.last_time r.time) (after_reading s r)
step s (record_kinds.Authority a) =
    unless causes.Authority (authority_fault s.train_and_track.track.length_cm a) (after_authority s a)
step s (record_kinds.Calculated eoa svl trip) =
    unless trip_cause (trip_fault s.train_and_track.track.length_cm eoa svl trip)
    (after_authority s (Stop eoa svl (calculated s.train_and_track svl trip)))
step s (record_kinds.Restrict r) =
    unless causes.Restrict (restrict_fault s.train_and_track.track.length_cm s.restrictions r) (after_restriction s r)
step s (record_kinds.Revoke id) = unless causes.Revoke (revoke_fault s.restrictions id) (after_revocation s id)

-- ---- turns

-- a turn of a journey: what a record says, with the states before and after it
pub record Turn : Type 0 where
  pub before : Supervision
  pub event : Event
  pub after : Supervision

-- the turn of an event that leads to a state, or why it is refused
abbrev pub turn_to : Supervision → Event → Result Supervision EventCause → Result Turn EventCause
turn_to s e (Ok after) = Ok (record { before = s; event = e; after = after })
turn_to s e (Err cause) = Err cause

-- the turn of a record as it is written, or why it is refused: its form is tested first
abbrev pub turn_of : Supervision → Result Event EventFault → Result Turn EventCause
turn_of s (Ok e) = turn_to s e (step s e)
turn_of s (Err fault) = Err (causes.Form fault)

-- the row of an event: a reading has one
abbrev pub row_at : Supervision → Event → Option Row
row_at s (record_kinds.Read r) = Some (row_of s r)
row_at s (record_kinds.Authority a) = None
row_at s (record_kinds.Calculated eoa svl trip) = None
row_at s (record_kinds.Restrict r) = None
row_at s (record_kinds.Revoke id) = None

-- the row of a turn, if it has one
abbrev pub row_of_turn : Turn → Option Row
row_of_turn t = row_at t.before t.event

-- the rows of turns
abbrev pub rows_of : List Turn → List Row
rows_of turns = filter_map row_of_turn turns

-- ---- a list of records

-- the most records of a journey
abbrev pub most_records : ℕ
most_records = 100_000

-- a journey: its turns up to the first record that is refused, and that record's number, from 1, with its cause; an
-- accepted journey has none
pub record Journey : Type 0 where
  pub turns : List Turn
  pub refused : Option (ℕ × EventCause)

-- the event of a record of a number, by its form; past the greatest count none is read
abbrev pub event_at : {A : Type 0} → (A → Result Event EventFault) → ℕ → A → Result Event EventFault
event_at form n x = if nat_lt most_records n then Err TooMany else form x

-- the journey from a turn on: the rest follows only where the record is accepted
abbrev pub go_on : ℕ → Result Turn EventCause → (Supervision → Journey) → Journey
go_on n (Ok t) rest = let later = rest t.after in record { turns = t ∷ later.turns; refused = later.refused }
go_on n (Err cause) rest = record { turns = []; refused = Some (n, cause) }

-- the journey of records, of which the first has the number `n`; `form` gives the event of a record of a number
abbrev pub journey_from : {A : Type 0} → (ℕ → A → Result Event EventFault) → ℕ → Supervision → List A → Journey
journey_from form n s [] = record { turns = []; refused = None }
journey_from form n s (x ∷ xs) = go_on n (turn_of s (form n x)) (λ t. journey_from form (suc n) t xs)
