-- A reading that is judged late: the ride has it at the moment for which it holds, with all that the supervisor was handed
-- in meanwhile before it and the ticks that passed after it (own).
use Rattle.std.specs.Prelude.{◌≡◌, ◌++◌, List, [], ◌∷◌, if◌then◌else◌}
use Rattle.sdm_num.specs.Readings.{OdometerReading}
use Rattle.sdm_rules.specs.declared.records.Event.TheVariants as record_kinds
use Rattle.sdm_ride.specs.Happenings.{Happening, Record}
use Rattle.sdm_ride.specs.Moments.{Judging, Moment}
use Rattle.sdm_ride.specs.MotionRides.{is_tick, last_moment}

-- the ticks among happenings (own)
abbrev pub ticks_in : List Happening → List Happening
ticks_in [] = []
ticks_in (h ∷ hs) = if is_tick h then h ∷ ticks_in hs else ticks_in hs

-- what else happens (own)
abbrev pub others_in : List Happening → List Happening
others_in [] = []
others_in (h ∷ hs) = if is_tick h then others_in hs else h ∷ others_in hs

-- a reading after happenings (own)
abbrev pub judged_late : List Happening → OdometerReading → List Happening
judged_late hs r = hs ++ (Record (record_kinds.Read r) ∷ [])

-- the same reading put back ahead of their ticks (own)
abbrev pub put_back : List Happening → OdometerReading → List Happening
put_back hs r = others_in hs ++ (Record (record_kinds.Read r) ∷ ticks_in hs)

-- put back, the reading is judged by what the supervisor holds where it is judged late, at the place and the speed that
-- the train had before the happenings; and the train ends where it does, with the same supervisor (own)
pub record IsPutBack (j : Judging) (m : Moment) (hs : List Happening) (r : OdometerReading) : Type 0 where
  pub place : (last_moment j m (others_in hs)).place ≡ m.place
  pub speed : (last_moment j m (others_in hs)).speed ≡ m.speed
  pub supervision : (last_moment j m (others_in hs)).supervision ≡ (last_moment j m hs).supervision
  pub end_place : (last_moment j m (put_back hs r)).place ≡ (last_moment j m (judged_late hs r)).place
  pub end_speed : (last_moment j m (put_back hs r)).speed ≡ (last_moment j m (judged_late hs r)).speed
  pub end_supervision :
      (last_moment j m (put_back hs r)).supervision ≡ (last_moment j m (judged_late hs r)).supervision

-- so it is of every reading after every list of happenings
abbrev pub LawOfLateReadings : Type 0
LawOfLateReadings = (j : Judging) (m : Moment) (hs : List Happening) (r : OdometerReading) → IsPutBack j m hs r
