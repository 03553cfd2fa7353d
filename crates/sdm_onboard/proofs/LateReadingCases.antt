-- What the law of late readings says of a reading that is judged 0.1 s late, after a missing one: the order of what happens
-- once it is put back.
use Rattle.std.proofs.Common.{◌≡◌, [], ◌∷◌}
use Rattle.sdm_num.specs.Readings.{OdometerReading}
use Rattle.sdm_rules.specs.declared.records.Event.TheVariants as record_kinds
use Rattle.sdm_ride.specs.Happenings.{Record, Overdue, Tick}
use Rattle.sdm_ride.specs.Moments.{Moment, by_rows}
use Rattle.sdm_ride.specs.MotionRides.{last_moment}
use Rattle.sdm_onboard.specs.LateReadings.{LawOfLateReadings}

module _ (law : LawOfLateReadings) (m : Moment) (r : OdometerReading) where
  -- the supervisor is asked the same
  same_supervision :
      (last_moment by_rows m (Overdue ∷ Record (record_kinds.Read r) ∷ Tick 27_000 24_300_000_000 ∷ [])).supervision
      ≡ (last_moment by_rows m (Tick 27_000 24_300_000_000 ∷ Overdue ∷ Record (record_kinds.Read r) ∷ [])).supervision
  same_supervision =
      (law by_rows m (Tick 27_000 24_300_000_000 ∷ Overdue ∷ []) r).end_supervision

  -- the train is where it is, and as fast
  same_place :
      (last_moment by_rows m (Overdue ∷ Record (record_kinds.Read r) ∷ Tick 27_000 24_300_000_000 ∷ [])).place
      ≡ (last_moment by_rows m (Tick 27_000 24_300_000_000 ∷ Overdue ∷ Record (record_kinds.Read r) ∷ [])).place
  same_place = (law by_rows m (Tick 27_000 24_300_000_000 ∷ Overdue ∷ []) r).end_place

  same_speed :
      (last_moment by_rows m (Overdue ∷ Record (record_kinds.Read r) ∷ Tick 27_000 24_300_000_000 ∷ [])).speed
      ≡ (last_moment by_rows m (Tick 27_000 24_300_000_000 ∷ Overdue ∷ Record (record_kinds.Read r) ∷ [])).speed
  same_speed = (law by_rows m (Tick 27_000 24_300_000_000 ∷ Overdue ∷ []) r).end_speed

  -- where it is judged, the train has not yet moved
  judged_there : (last_moment by_rows m (Overdue ∷ [])).place ≡ m.place
  judged_there = (law by_rows m (Tick 27_000 24_300_000_000 ∷ Overdue ∷ []) r).place
