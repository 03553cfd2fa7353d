-- The motions of a reading's promise as rides: no motion of them goes where no ride does (own).
use Rattle.std.specs.Prelude.{◌≡◌, ℕ, ℤ, true, Bool, false, All, List, [], ◌∷◌, Some, None}
use Rattle.sdm_num.specs.Readings.{OdometerReading}
use Rattle.sdm_rules.specs.declared.data.SlopeKind.TheVariants.{Safe}
use Rattle.sdm_rules.specs.declared.motions.Point.{Point}
use Rattle.sdm_rules.specs.Decelerations.{slopes_of}
use Rattle.sdm_rules.specs.Motion.{Motion, last_point}
use Rattle.sdm_rules.specs.Opening.{IsOpen}
use Rattle.sdm_rules.specs.Reaction.{reaction_start}
use Rattle.sdm_rules.specs.Stop.{IsMotionOn}
use Rattle.sdm_rules.specs.Supervision.{Supervision, after_reading}
use Rattle.sdm_ride.specs.Happenings.{Happening, Record, Unread, Overdue, Change, Tick}
use Rattle.sdm_ride.specs.Moments.{Judging, Moment, after}
use Rattle.sdm_ride.specs.Rides.{IsByClock, IsRide, point_of}

-- just after a reading that gave its promise, with the train at a place and a speed (own)
abbrev pub promised_at : Supervision → OdometerReading → ℤ → ℕ → Moment
promised_at under r place speed = record {
  supervision = after_reading under r;
  place = place;
  speed = speed;
  silence = 0;
  order = None;
  promise = Some (record { under = under; reading = r; age = 0 });
}

-- a tick, and nothing else, happens (own)
abbrev pub is_tick : Happening → Bool
is_tick (Record e) = false
is_tick Unread = false
is_tick Overdue = false
is_tick (Change next) = false
is_tick (Tick to length) = true

-- the moment after all that happens (own)
abbrev pub last_moment : Judging → Moment → List Happening → Moment
last_moment j m [] = m
last_moment j m (h ∷ hs) = last_moment j (after j m h) hs

-- from a moment some ride by the clock, of ticks alone, comes to a point (own)
pub record ComesTo (j : Judging) (s : ℕ) (m : Moment) (end : Point) : Type 0 where
  pub happenings : List Happening
  pub ticks : All (λ h. is_tick h ≡ true) happenings
  pub ride : IsRide j (IsByClock s) s m happenings
  pub ends : point_of (last_moment j m happenings) ≡ end

-- each motion within the bounds of a reading ends where a ride by the clock does, at the same scale
abbrev pub LawOfMotionRides : Type 0
LawOfMotionRides =
    (j : Judging) (under : Supervision) (r : OdometerReading) (m : Motion) → IsOpen under →
    IsMotionOn (slopes_of Safe under.train_and_track) (reaction_start under.train_and_track r) m →
    ComesTo j m.scale (promised_at under r m.place m.speed) (last_point m.first m.more)
