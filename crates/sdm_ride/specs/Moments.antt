-- A ride from moment to moment: what reaches the supervisor, what is ordered after it, and where the train is (own).
-- For a scale `s` a tick is 1/s ds, speeds are in 1/s notch, and places and distances in 1/s² of a grain.
use Rattle.std.specs.Prelude.{ℕ, suc, ℤ, pos, Bool, true, false, not, ◌&&◌, ◌||◌, List, [], ◌∷◌, Option, Some, None}
use Rattle.std.specs.Prelude.{Result, Ok, Err, ◌+ℤ◌, option_map, if◌then◌else◌}
use Rattle.sdm_num.specs.Readings.{OdometerReading}
use Rattle.sdm_rules.specs.declared.commands.State.{State}
use Rattle.sdm_rules.specs.declared.commands.State.TheVariants.{C, T, R}
use Rattle.sdm_rules.specs.declared.faults.EventCause.{EventCause}
use Rattle.sdm_rules.specs.declared.faults.TakeOverFault.{TakeOverFault}
use Rattle.sdm_rules.specs.declared.records.Event.{Event}
use Rattle.sdm_rules.specs.declared.records.Event.TheVariants as record_kinds
use Rattle.sdm_rules.specs.declared.rows.Row.{Row}
use Rattle.sdm_rules.specs.Records.{step}
use Rattle.sdm_rules.specs.Supervision.{Supervision, row_of}
use Rattle.sdm_rules.specs.TakeOver.{change}
use Rattle.sdm_rules.specs.Within.{is_within_svl}
use Rattle.sdm_ride.specs.Happenings.{Happening, Record, Unread, Overdue, Change, Tick}

-- ---- what a reading does

-- how readings are judged: which ones give a promise, and after which ones the emergency brake is ordered (own)
pub record Judging : Type 0 where
  pub promises : Supervision → OdometerReading → Bool
  pub orders : Supervision → OdometerReading → Bool

-- the state is release speed monitoring (own)
abbrev pub is_release : State → Bool
is_release C = false
is_release T = false
is_release R = true

-- the emergency brake is ordered after a row: where it is commanded, and where the row isn't covered, but in release
-- speed monitoring, which promises no stop (own)
abbrev pub is_ordered : Row → Bool
is_ordered row = row.held.eb || (not row.covered && not (is_release row.state))

-- by the rows: a covered one gives a promise, and the emergency brake is ordered as the row asks (own)
abbrev pub by_rows : Judging
by_rows = record { promises = λ s r. (row_of s r).covered; orders = λ s r. is_ordered (row_of s r) }

-- by the free rows: a covered one without emergency command gives a promise, and orders are those by the rows (own)
abbrev pub by_free_rows : Judging
by_free_rows = record {
  promises = λ s r. (row_of s r).covered && not (row_of s r).held.eb;
  orders = λ s r. is_ordered (row_of s r);
}

-- by the SvL: a reading within it gives a promise, and the emergency brake is ordered where it is commanded, and after
-- a reading that isn't within it (own)
abbrev pub by_svl : Judging
by_svl = record { promises = is_within_svl; orders = λ s r. (row_of s r).held.eb || not (is_within_svl s r) }

-- ---- a moment

-- the promise that stands: the reading that gave it, what the supervisor held at that reading with its data, and how many
-- ticks ago it was (own)
pub record Promise : Type 0 where
  pub under : Supervision
  pub reading : OdometerReading
  pub age : ℕ

-- a moment of a ride (own)
pub record Moment : Type 0 where
  pub supervision : Supervision  -- what the supervisor holds
  pub place : ℤ  -- the true front end
  pub speed : ℕ  -- the true speed
  pub silence : ℕ  -- how many ticks ago a reading was last judged or found missing
  pub order : Option ℕ  -- for how many ticks the emergency brake has been ordered, where it is
  pub promise : Option Promise  -- the promise that stands, if one does

-- ---- what follows a moment

-- an order that stands goes on, else one is given (own)
abbrev pub ordered : Option ℕ → Option ℕ
ordered None = Some 0
ordered (Some o) = Some o

-- the promise after a reading: that of this one; or the one that stood, where the emergency brake is ordered; else none
-- (own)
abbrev pub promise_after : Bool → Bool → Promise → Option Promise → Option Promise
promise_after promises orders new last = if promises then Some new else if orders then last else None

-- after a reading that is judged, with the supervision state that follows it (own)
abbrev pub after_read : Judging → Moment → OdometerReading → Supervision → Moment
after_read j m r s =
    let orders = j.orders m.supervision r in
    record m {
      supervision = s;
      silence = 0;
      order = if orders then ordered m.order else None;
      promise =
          promise_after (j.promises m.supervision r) orders
          (record { under = m.supervision; reading = r; age = 0 }) m.promise;
    }

-- after a record that is taken, with the supervision state that follows it (own)
abbrev pub after_taken : Judging → Moment → Event → Supervision → Moment
after_taken j m (record_kinds.Read r) s = after_read j m r s
after_taken j m (record_kinds.Authority a) s = record m { supervision = s }
after_taken j m (record_kinds.Calculated eoa svl trip) s = record m { supervision = s }
after_taken j m (record_kinds.Restrict r) s = record m { supervision = s }
after_taken j m (record_kinds.Revoke id) s = record m { supervision = s }

-- after a record: one that is refused changes nothing (own)
abbrev pub after_record : Judging → Moment → Event → Result Supervision EventCause → Moment
after_record j m e (Ok s) = after_taken j m e s
after_record j m e (Err cause) = m

-- after a change of data: the promise that stands stays under the data of its reading; a change that is refused changes
-- nothing (own)
abbrev pub after_change : Moment → Result Supervision TakeOverFault → Moment
after_change m (Ok s) = record m { supervision = s }
after_change m (Err fault) = m

-- a promise a tick later (own)
abbrev pub aged : Promise → Promise
aged c = record c { age = suc c.age }

-- after a tick (own)
abbrev pub after_tick : Moment → ℕ → ℕ → Moment
after_tick m to length = record m {
  place = m.place +ℤ pos length;
  speed = to;
  silence = suc m.silence;
  order = option_map (λ o. suc o) m.order;
  promise = option_map aged m.promise;
}

-- the next moment: a missing reading orders the emergency brake (own)
unfoldable pub after : Judging → Moment → Happening → Moment
after j m (Record e) = after_record j m e (step m.supervision e)
after j m Unread = m
after j m Overdue = record m { silence = 0; order = ordered m.order }
after j m (Change next) = after_change m (change next m.supervision)
after j m (Tick to length) = after_tick m to length

-- the moments that follow (own)
abbrev pub moments : Judging → Moment → List Happening → List Moment
moments j m [] = []
moments j m (h ∷ hs) = after j m h ∷ moments j (after j m h) hs
