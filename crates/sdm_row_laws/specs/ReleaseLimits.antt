-- The calculated release speed and the start of release speed monitoring are limits: up to them every motion at the
-- release speed stops in time, past them some motion doesn't (own).
use Rattle.std.specs.Prelude.{◌≡◌, ◌≢◌, ◌⊎◌, ◌<◌, ◌≤◌, ℕ, suc, ℤ, pos, true, false, ◌+◌, ◌+ℤ◌}
use Rattle.sdm_num.specs.Units.{millimetre, notches, top_kmh}
use Rattle.sdm_num.specs.Fractions.{Fraction}
use Rattle.sdm_num.specs.Readings.{OdometerReading}
use Rattle.sdm_rules.specs.declared.authorities.Authority.TheVariants.{Stop}
use Rattle.sdm_rules.specs.declared.commands.State.TheVariants.{R}
use Rattle.sdm_rules.specs.declared.data.SlopeKind.TheVariants.{Expected, Safe}
use Rattle.sdm_rules.specs.declared.motions.Start.{Start}
use Rattle.sdm_rules.specs.Cells.{place_of_cell}
use Rattle.sdm_rules.specs.Data.{TrainAndTrack}
use Rattle.sdm_rules.specs.Decelerations.{slopes_of}
use Rattle.sdm_rules.specs.Limits.{exact_places, release_start}
use Rattle.sdm_rules.specs.Opening.{IsOpen}
use Rattle.sdm_rules.specs.Reaction.{reaction_times}
use Rattle.sdm_rules.specs.Release.{calculated, latest_trip, t_be, trip_start}
use Rattle.sdm_rules.specs.Stop.{StopsBy}
use Rattle.sdm_rules.specs.Supervision.{Supervision, row_of}
use Rattle.sdm_rules.specs.Triggers.{is_past}
use Rattle.sdm_row_laws.specs.Tightness.{IsExactLimit, MayPass}

-- ---- the calculated release speed

-- THE LATEST TRIP IS TIGHT: at each speed, in km/h, the exact latest trip for an SvL, in cm, is the limit of where the
-- emergency brake stops a tripped train by it
abbrev pub LawOfExactTrip : Type 0
LawOfExactTrip = (s : Supervision) (svl trip kmh : ℕ) → IsOpen s →
    let on = slopes_of Safe s.train_and_track in
    IsExactLimit on (trip_start s.train_and_track trip kmh) (place_of_cell (pos svl))
    (latest_trip exact_places on (t_be s.train_and_track) (place_of_cell (pos svl)) (notches kmh))

-- a train that is tripped at most a millimetre past the place, in cm, at a speed in km/h (own)
abbrev pub millimetre_later : TrainAndTrack → ℕ → ℕ → Start
millimetre_later d trip kmh =
    record (trip_start d trip kmh) { front = place_of_cell (pos trip) +ℤ pos millimetre }

-- ONE KM/H MORE is too much: at one km/h more than the calculated release speed some train that is tripped at most a
-- millimetre past the place passes the SvL
abbrev pub LawOfTightRelease : Type 0
LawOfTightRelease = (s : Supervision) (svl trip : ℕ) → IsOpen s → trip ≤ svl →
    let d = s.train_and_track in
    calculated d svl trip < top_kmh →
    MayPass (slopes_of Safe d) (millimetre_later d trip (suc (calculated d svl trip))) (place_of_cell (pos svl))

-- ---- the start of release speed monitoring

-- a train at a front end with at most the release speed, in km/h, that keeps it for a time, in ds, and then brakes (own)
abbrev pub at_release : ℤ → ℕ → ℕ → Start
at_release front release time = record {
  front = front;
  speed = notches release;
  accel1 = 0;
  accel2 = 0;
  traction = 0;
  berem = time;
}

-- T_bs, until the service brake works, in ds (SUBSET-026-3 3.13.9.4)
abbrev pub until_service : TrainAndTrack → ℕ
until_service d = (reaction_times d).bs

-- T_traction + T_berem + T_bs, until the emergency brake works, in ds (SUBSET-026-3 3.13.9.4)
abbrev pub until_emergency : TrainAndTrack → ℕ
until_emergency d =
    let times = reaction_times d in
    times.traction + times.berem + times.bs

-- at the release speed from a front end on, the service brake stops every motion by the EOA, and the emergency brake by
-- the SvL, both in cm
pub record StopsAtRelease (d : TrainAndTrack) (eoa svl release : ℕ) (front : ℤ) : Type 0 where
  pub by_eoa : StopsBy (slopes_of Expected d) (at_release front release (until_service d)) (place_of_cell (pos eoa))
  pub by_svl : StopsBy (slopes_of Safe d) (at_release front release (until_emergency d)) (place_of_cell (pos svl))

-- or some motion passes the one or the other
abbrev pub MayPassAtRelease : TrainAndTrack → ℕ → ℕ → ℕ → ℤ → Type 0
MayPassAtRelease d eoa svl release front =
    MayPass (slopes_of Expected d) (at_release front release (until_service d)) (place_of_cell (pos eoa))
    ⊎ MayPass (slopes_of Safe d) (at_release front release (until_emergency d)) (place_of_cell (pos svl))

-- where a front end is at or before the start of release speed monitoring both brakes stop the train in time, and where
-- it is past it one of them may not
pub record IsExactStart (d : TrainAndTrack) (eoa svl release : ℕ) (front : ℤ) (start : Fraction) : Type 0 where
  pub stops : is_past 0 front start ≡ false → StopsAtRelease d eoa svl release front
  pub passes : is_past 0 front start ≡ true → MayPassAtRelease d eoa svl release front

-- THE START OF RELEASE SPEED MONITORING IS TIGHT: the exact one is such a limit
abbrev pub LawOfExactStart : Type 0
LawOfExactStart = (s : Supervision) (eoa svl release : ℕ) (front : ℤ) → IsOpen s →
    IsExactStart s.train_and_track eoa svl release front (release_start exact_places s.train_and_track eoa svl release)

-- under a stop with a release speed: in a row that isn't in release speed monitoring both brakes stop a train at the
-- release speed in time from the max safe front end on, and in one that is, some motion from at most a millimetre further
-- on passes the EOA or the SvL
pub record IsReleaseNeeded (s : Supervision) (r : OdometerReading) (eoa svl release : ℕ) : Type 0 where
  pub not_yet : (row_of s r).state ≢ R → StopsAtRelease s.train_and_track eoa svl release r.max
  pub needed : (row_of s r).state ≡ R →
      MayPassAtRelease s.train_and_track eoa svl release (r.max +ℤ pos millimetre)

-- NOT NEEDLESSLY EARLY: so release speed monitoring begins
abbrev pub LawOfTightStart : Type 0
LawOfTightStart = (s : Supervision) (r : OdometerReading) (eoa svl release : ℕ) → IsOpen s →
    s.authority ≡ Stop eoa svl release → 0 < release → IsReleaseNeeded s r eoa svl release
