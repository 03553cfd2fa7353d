-- Calls as values, and what a list of them does: a fold over the definitions that the clauses of the calls cite (own).
use Rattle.std.specs.Prelude.{◌≡◌, ⊤, ℕ, IsTrue, List, [], ◌∷◌, Option, Some, None}
use Rattle.std.specs.Prelude.{Result, Ok, Err, ◌==◌, ◌||◌, map, if◌then◌else◌}
use Rattle.sdm_rules.specs.declared.authorities.Authority.TheVariants.{Stop, Limit}
use Rattle.sdm_rules.specs.declared.records.Event.{Event}
use Rattle.sdm_rules.specs.declared.records.Event.TheVariants as record_kinds
use Rattle.sdm_rules.specs.Records.{step}
use Rattle.sdm_rules.specs.Supervision.{Supervision, row_of}
use Rattle.sdm_rules.specs.TakeOver.{taken_over}
use Rattle.sdm_causes.specs.Causes.{causes_of}
use Rattle.sdm_rules.specs.Display.{display_of}
use Rattle.sdm_laws.specs.TripPlaces.{has_trip_place}
use Rattle.sdm_ahead.specs.WhatIfs.{would_cover_from}
use Rattle.sdm_ride.specs.Orders.{taken_or}
use Rattle.sdm_supervisor.specs.Supervised.{bounds_of}
use Rattle.sdm_opening.specs.Openings.{IsOpeningOf}
use Rattle.sdm_c.specs.declared.call_lists.Call.{Call}
use Rattle.sdm_c.specs.declared.call_lists.Call.TheVariants as calls
use Rattle.sdm_c.specs.declared.call_lists.Written.{Written}
use Rattle.sdm_c.specs.declared.handle.Handle.{Handle}
use Rattle.sdm_c.specs.Clearances.{first_clear_in_c}
use Rattle.sdm_c.specs.Codes.{causes_in_c, display_in_c, flag, row_in_c}
use Rattle.sdm_c.specs.Numbers.{is_identity, is_reading, is_restriction, reading_from, restriction_from}
use Rattle.sdm_c.specs.Statuses.{authority_answer, bad_data, calculated_answer, clear_answer, closed, cycle_answer}
use Rattle.sdm_c.specs.Statuses.{display_answer, done, in_use, no_memory, refused, restrict_answer, revoke_answer}
use Rattle.sdm_c.specs.Statuses.{take_over_answer}

-- ---- ONE CALL

-- a call with what it finds: what an opening over its data part comes to, a state or the status without one; and the
-- supervisor that ran before, if the handle that it names has one (own)
pub record Asked : Type 0 where
  pub call : Call
  pub opening : Result Supervision ℕ
  pub before : Option Supervision

-- the supervisor of a handle, if it has one (own)
abbrev pub supervisor_in : Handle → Option Supervision
supervisor_in h = if h.is_open == 1 then Some h.state else None

-- an opening over a data part may come to this: the state that it opens, or the status of memory, data or slopes that
-- are refused (own)
abbrev pub MayComeTo : List ℕ → Result Supervision ℕ → Type 0
MayComeTo given (Ok s) = IsOpeningOf given s
MayComeTo given (Err status) = IsTrue (status == no_memory || status == bad_data || status == refused)

-- the record that a call hands over; none by other calls, and where a number is outside its range (own)
abbrev pub record_of : Call → Option Event
record_of (calls.Cycle r) = if is_reading r then Some (record_kinds.Read (reading_from r)) else None
record_of (calls.End eoa svl release) = Some (record_kinds.Authority (Stop eoa svl release))
record_of (calls.EndCalculated eoa svl trip) = Some (record_kinds.Calculated eoa svl trip)
record_of (calls.Limit loa speed) = Some (record_kinds.Authority (Limit loa speed))
record_of (calls.Restrict r) = if is_restriction r then Some (record_kinds.Restrict (restriction_from r)) else None
record_of (calls.Revoke id) = if is_identity id then Some (record_kinds.Revoke id) else None
record_of other = None

-- the state after a record, if there is one: one that is refused changes nothing (own)
abbrev pub after_record : Supervision → Option Event → Supervision
after_record s None = s
after_record s (Some e) = taken_or s (step s e)

-- the state of a supervisor that is to take over (own)
abbrev pub after_change : Supervision → Option Supervision → Supervision
after_change next None = next
after_change next (Some before) =
    if take_over_answer next before == done then taken_over next before else next

-- what a call leaves of a supervisor (own)
abbrev pub left : Supervision → Option Supervision → Call → Option Supervision
left s before calls.Close = None
left s before calls.TakeOver = Some (after_change s before)
left s before other = Some (after_record s (record_of other))

-- the status of a change of data (own)
abbrev pub change_answer : Supervision → Option Supervision → ℕ
change_answer next None = closed
change_answer next (Some before) = take_over_answer next before

-- the status of a call with a supervisor; closing has none, and stands as done (own)
abbrev pub answer : Supervision → Option Supervision → Call → ℕ
answer s before calls.Open = in_use
answer s before (calls.Cycle r) = cycle_answer s r
answer s before (calls.End eoa svl release) = authority_answer s (Stop eoa svl release)
answer s before (calls.EndCalculated eoa svl trip) = calculated_answer s eoa svl trip
answer s before (calls.Limit loa speed) = authority_answer s (Limit loa speed)
answer s before (calls.Restrict r) = restrict_answer s r
answer s before (calls.Revoke id) = revoke_answer s id
answer s before calls.TakeOver = change_answer s before
answer s before (calls.Display r) = display_answer r
answer s before (calls.Causes r) = display_answer r
answer s before (calls.WouldCover r) = display_answer r
answer s before (calls.WouldCoverUpTo r) = display_answer r
answer s before (calls.HasTripPlace width excess) = done
answer s before (calls.ClearOf r a) = clear_answer r a
answer s before calls.Close = done

-- what is written by a call that is done (own)
abbrev pub told : Supervision → Call → Written → Written
told s (calls.Cycle r) w = record w { row = row_in_c (row_of s (reading_from r)) }
told s (calls.Display r) w = record w { display = display_in_c (display_of s (reading_from r)) }
told s (calls.Causes r) w = record w { causes = causes_in_c (causes_of s (reading_from r)) }
told s (calls.WouldCover r) w = record w { is_covered = flag (row_of s (reading_from r)).covered }
told s (calls.WouldCoverUpTo r) w =
    record w { is_covered = flag (would_cover_from s (reading_from r).min (reading_from r)) }
told s (calls.HasTripPlace width excess) w =
    record w { has_place = flag (has_trip_place (bounds_of width excess) s.train_and_track s.authority) }
told s (calls.ClearOf r a) w = record w { first = first_clear_in_c s r a }
told s other w = w

-- ---- A LIST OF CALLS

-- what stands after a call: its status, the supervisor of the handle, if it has one, and what was written last (own)
pub record Answer : Type 0 where
  pub status : ℕ
  pub supervisor : Option Supervision
  pub written : Written

-- what comes of an opening (own)
abbrev pub opened : Result Supervision ℕ → Written → Answer
opened (Ok s) w = record { status = done; supervisor = Some s; written = w }
opened (Err status) w = record { status = status; supervisor = None; written = w }

-- what a call answers without a supervisor (own)
abbrev pub answer_closed : Asked → Call → Written → Answer
answer_closed a calls.Open w = opened a.opening w
answer_closed a calls.Close w = record { status = done; supervisor = None; written = w }
answer_closed a other w = record { status = closed; supervisor = None; written = w }

-- what a call answers, from what stood before it (own)
abbrev pub answer_of : Option Supervision → Written → Asked → Answer
answer_of None w a = answer_closed a a.call w
answer_of (Some s) w a = let status = answer s a.before a.call in record {
  status = status;
  supervisor = left s a.before a.call;
  written = if status == done then told s a.call w else w;
}

-- what a list of calls answers: each begins with what the one before it left (own)
abbrev pub answers_of : Option Supervision → Written → List Asked → List Answer
answers_of s w [] = []
answers_of s w (a ∷ more) = let first = answer_of s w a in first ∷ answers_of first.supervisor first.written more

-- a call that was made: with what it was asked, and what stood after it (own)
pub record Made : Type 0 where
  pub asked : Asked
  pub status : ℕ
  pub handle : Handle
  pub written : Written

-- what stood after a call that was made (own)
abbrev pub answer_in : Made → Answer
answer_in m = record { status = m.status; supervisor = supervisor_in m.handle; written = m.written }

-- a call that is made on a handle does what the definitions say (own)
pub record IsMade (h : Handle) (w : Written) (m : Made) : Type 0 where
  pub answer : answer_in m ≡ answer_of (supervisor_in h) w m.asked

-- calls made one after the other: each begins with the handle, and with what is written, as the one before it left them
-- (own)
abbrev pub AreMade : Handle → Written → List Made → Type 0
AreMade h w [] = ⊤
AreMade h w (m ∷ more) = IsMade h w m × AreMade m.handle m.written more

-- EVERY LIST OF CALLS: what it answers is what the fold says
abbrev pub LawOfCalls : Type 0
LawOfCalls =
    (h : Handle) (w : Written) (made : List Made) → AreMade h w made →
    map answer_in made ≡ answers_of (supervisor_in h) w (map (λ m. m.asked) made)
