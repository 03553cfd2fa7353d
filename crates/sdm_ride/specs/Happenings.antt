-- What happens in a ride (own). At a scale `s` a tick is 1/s ds, speeds are in 1/s notch, and distances in 1/s² of a grain.
use Rattle.std.specs.Prelude.{ℕ}
use Rattle.sdm_rules.specs.declared.records.Event.{Event}
use Rattle.sdm_rules.specs.Supervision.{Supervision}

-- what happens to a supervised train
pub data Happening : Type 0 where
  Record : Event → Happening  -- a record is handed to the supervisor, which takes or refuses it
  Unread : Happening  -- a record is out of its form, so the supervisor isn't asked
  Overdue : Happening  -- no reading came in time
  Change : Supervision → Happening  -- one that was opened over new data is to take over, which it does or not
  Tick : ℕ → ℕ → Happening  -- a tick passes: the train gets to a speed, and moves by a length
