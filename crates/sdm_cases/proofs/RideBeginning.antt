-- The ride of RideCases as it begins: two readings of a train that is read to run at 0.1 m/s and may run 0.1 m/s faster,
-- with the rows that they have, and the moments that they lead to. It is the train of README, whose T_traction is 0, but
-- for an emergency time of 0.3 s: with none, no time passes in a ride while a promise stands.
use Rattle.std.proofs.Common.{◌≡◌, ℕ, ℤ, pos, Bool, true, false, List, [], ◌∷◌, refl}
use Rattle.std.proofs.Common.{ap, ◌∙◌, arith}
use Rattle.std.specs.Prelude.{All, Ok, Option, Some, None, not, ◌&&◌, ◌||◌, if◌then◌else◌}
use Rattle.sdm_num.specs.Readings.{OdometerReading}
use Rattle.sdm_rules.specs.declared.authorities.Authority.TheVariants.{Stop}
use Rattle.sdm_rules.specs.declared.commands.State.{State}
use Rattle.sdm_rules.specs.declared.commands.State.TheVariants.{T}
use Rattle.sdm_rules.specs.declared.records.Event.TheVariants as record_kinds
use Rattle.sdm_rules.specs.Commands.{commands_after, emergency_after, nothing_held}
use Rattle.sdm_rules.specs.Curves.{place_at, corner, arc, stepped, arc_back, back}
use Rattle.sdm_rules.specs.Data.{TrainAndTrack}
use Rattle.sdm_rules.specs.Decelerations.{slope_at, slopes_of}
use Rattle.sdm_rules.specs.Limits.{limits_of, release_start}
use Rattle.sdm_rules.specs.Opening.{IsOpen}
use Rattle.sdm_rules.specs.Profile.{mrsp}
use Rattle.sdm_rules.specs.Reaction.{reaction_times}
use Rattle.sdm_rules.specs.Records.{step}
use Rattle.sdm_rules.specs.Supervision.{Supervision, after_reading, commands_in, is_covered_in, opening, row_in, row_of}
use Rattle.sdm_rules.specs.Supervision.{state_in}
use Rattle.sdm_rules.specs.TakeOver.{change, take_over_fault, taken_over, unless_refused}
use Rattle.sdm_rules.specs.Targets.{targets_of}
use Rattle.sdm_rules.specs.Triggers.{triggers_of}
use Rattle.sdm_ride.specs.Happenings.{Happening, Record, Overdue, Change, Tick}
use Rattle.sdm_ride.specs.Moments.{Moment, Promise, after, after_change, by_rows, is_ordered, is_release}
use Rattle.sdm_ride.specs.Rides.{IsByOrders, TickRule}
use Rattle.sdm_ride.specs.RideLaws.{EndsBy, IsRideStart}
use Rattle.sdm_cases.proofs.Journeys.{plain_band, plain_national, plain_train_and_track}
use Rattle.sdm_cases.proofs.Openings.{opening_situation, situation_in, situation_with}
use Rattle.sdm_cases.proofs.RideLine.{authority, delays, line_open, line_open_under}
use Rattle.sdm_cases.proofs.RideLine.{ride_line}
use Rattle.sdm_cases.proofs.TakeOverCases.{none_in}

abbrev pub line : TrainAndTrack
line = ride_line (pos 0) (pos 0)

-- ---- two readings, with the max safe front end 8 cm and 6 cm before the SvL

unfoldable pub first : OdometerReading
first = record {
  time = 0;
  est = pos 5_351_400_000_000;
  min = pos 5_351_400_000_000;
  max = pos 5_356_800_000_000;
  speed = 5_400;
  accel = pos 0;
  under = 5_400;
}

unfoldable pub second : OdometerReading
second = record {
  time = 1;
  est = pos 5_362_200_000_000;
  min = pos 5_362_200_000_000;
  max = pos 5_367_600_000_000;
  speed = 5_400;
  accel = pos 0;
  under = 5_400;
}

abbrev pub before : Supervision
before = opening line authority

abbrev pub between : Supervision
between = after_reading before first

pub first_covered : (row_of before first).covered ≡ true
unfolding ride_line plain_train_and_track plain_national plain_band first row_in situation_with targets_of mrsp
    is_covered_in limits_of release_start reaction_times slopes_of slope_at stepped place_at corner arc arc_back back
first_covered = ap (λ now. is_covered_in line first now) (opening_situation line authority first) ∙ refl

-- and no brake is ordered
pub first_free : is_ordered (row_of before first) ≡ false
unfolding ride_line plain_train_and_track plain_national plain_band first row_in situation_with targets_of mrsp
    is_covered_in state_in commands_in commands_after emergency_after triggers_of limits_of release_start
    reaction_times slopes_of slope_at stepped place_at corner arc arc_back back
first_free = ap (λ now. is_ordered (row_in line nothing_held first now)) (opening_situation line authority first) ∙ refl

pub second_uncovered : (row_of between second).covered ≡ false
unfolding ride_line plain_train_and_track plain_national plain_band second row_in situation_with targets_of mrsp
    is_covered_in limits_of release_start reaction_times slopes_of slope_at stepped place_at corner arc arc_back back
    after_reading
second_uncovered = ap (λ now. is_covered_in line second now) (situation_in between second refl) ∙ refl

pub second_state : (row_of between second).state ≡ T
unfolding ride_line plain_train_and_track plain_national plain_band second row_in situation_with targets_of mrsp
    state_in limits_of release_start triggers_of reaction_times slopes_of slope_at stepped place_at corner arc arc_back
    back after_reading
second_state = ap (λ now. state_in line second now) (situation_in between second refl) ∙ refl

-- a row that isn't covered orders the brake, whether it is commanded or not
pub ordered_in : (eb covered : Bool) (state : State) → covered ≡ false → state ≡ T →
    (eb || (not covered && not (is_release state))) ≡ true
ordered_in true covered state e f = refl
ordered_in false covered state e f = rw (e, f) refl

pub second_ordered : is_ordered (row_of between second) ≡ true
second_ordered = ordered_in _ _ _ second_uncovered second_state

-- ---- what happens

-- at 0.2 m/s, 8 cm before the SvL
abbrev pub start : Moment
start = record {
  supervision = before;
  place = pos 5_356_800_000_000;
  speed = 10_800;
  silence = 0;
  order = None;
  promise = None;
}

pub start_is_one : IsRideStart start
start_is_one = record { is_open = line_open (pos 0) (pos 0); none = refl }

-- 2 cm a ds at 0.2 m/s; then 1.5 cm and 0.5 cm at 1 m/s²
abbrev pub runs : Happening
runs = Tick 10_800 10_800_000_000

abbrev pub brakes : Happening
brakes = Tick 5_400 8_100_000_000

abbrev pub stops : Happening
stops = Tick 0 2_700_000_000

-- from where the brake works, from the second reading, and from the first one on
abbrev pub braked : List Happening
braked = brakes ∷ Overdue ∷ stops ∷ []

abbrev pub from_second : List Happening → List Happening
from_second rest = runs ∷ Overdue ∷ runs ∷ Overdue ∷ rest

abbrev pub from_first : List Happening → List Happening
from_first rest = Record (record_kinds.Read first) ∷ runs ∷ Record (record_kinds.Read second) ∷ from_second rest

-- a moment after the covered reading
abbrev pub moment : Supervision → ℤ → ℕ → ℕ → ℕ → Option ℕ → Moment
moment s place speed silence age order = record {
  supervision = s;
  place = place;
  speed = speed;
  silence = silence;
  order = order;
  promise = Some (record { under = before; reading = first; age = age });
}

abbrev pub later : Supervision
later = after_reading between second

-- all authorities end at 1000 cm
abbrev pub AreEnding : List Moment → Type 0
AreEnding ms = All (λ n. EndsBy 1000 n.supervision.authority) ms

-- the promise of the first reading, so many ticks ago
abbrev pub promised : ℕ → Promise
promised age = record { under = before; reading = first; age = age }

-- a rule that a tick keeps which is by the orders, with a brake that works so many ds after the order at the interface
abbrev pub Allows : ℕ → TickRule → Type 0
Allows b rule = (age : ℕ) (m : Moment) (to length : ℕ) → IsByOrders (delays b) 1 (promised age) m to length →
    rule (promised age) m to length

pub ends_between : EndsBy 1000 between.authority
unfolding after_reading
ends_between = (omega arith, refl)

pub ends_later : EndsBy 1000 later.authority
unfolding after_reading
ends_later = (omega arith, refl)

-- the first reading
pub to_first : after by_rows start (Record (record_kinds.Read first))
    ≡ moment between (pos 5_356_800_000_000) 10_800 0 0 None
unfolding after step
to_first =
    ap (λ (b : Bool). record {
      supervision = between;
      place = pos 5_356_800_000_000;
      speed = 10_800;
      silence = 0;
      order = if is_ordered (row_of before first) then Some 0 else None;
      promise = if b then Some (record { under = before; reading = first; age = 0 })
          else if is_ordered (row_of before first) then None else None;
    }) first_covered
    ∙ ap (λ (b : Bool). moment between (pos 5_356_800_000_000) 10_800 0 0 (if b then Some 0 else None)) first_free

-- the second
pub to_second : after by_rows (moment between (pos 5_367_600_000_000) 10_800 1 1 None) (Record (record_kinds.Read second))
    ≡ moment later (pos 5_367_600_000_000) 10_800 0 1 (Some 0)
unfolding after step after_reading first second
to_second =
    ap (λ (b : Bool). record {
      supervision = later;
      place = pos 5_367_600_000_000;
      speed = 10_800;
      silence = 0;
      order = if is_ordered (row_of between second) then Some 0 else None;
      promise = if b then Some (record { under = between; reading = second; age = 0 })
          else if is_ordered (row_of between second) then Some (record { under = before; reading = first; age = 1 })
          else None;
    }) second_uncovered
    ∙ ap (λ (b : Bool). record {
      supervision = later;
      place = pos 5_367_600_000_000;
      speed = 10_800;
      silence = 0;
      order = if b then Some 0 else None;
      promise = if b then Some (record { under = before; reading = first; age = 1 }) else None;
    }) second_ordered

-- ---- new data

-- other times, and the EOA at 9 m
abbrev pub next : Supervision
next = opening (ride_line (pos 2) (pos 5)) (Stop 900 1000 0)

abbrev pub changed : Supervision
changed = taken_over next between

pub next_open : IsOpen next
next_open = line_open_under (pos 2) (pos 5) (Stop 900 1000 0)

-- they are taken, since no restriction is in force
pub unrestricted : take_over_fault next.train_and_track.track.length_cm between.restrictions ≡ None
unfolding after_reading
unrestricted = rw none_in refl

pub changes : change next between ≡ Ok changed
unfolding change
changes = ap (λ f. unless_refused f changed) unrestricted

pub to_change : after by_rows (moment between (pos 5_356_800_000_000) 10_800 0 0 None) (Change next)
    ≡ moment changed (pos 5_356_800_000_000) 10_800 0 0 None
unfolding after
to_change = ap (after_change (moment between (pos 5_356_800_000_000) 10_800 0 0 None)) changes

pub ends_changed : EndsBy 1000 changed.authority
ends_changed = (omega arith, refl)

-- the first reading, the change, and no second one
abbrev pub over_a_change : List Happening → List Happening
over_a_change rest = Record (record_kinds.Read first) ∷ Change next ∷ runs ∷ Overdue ∷ from_second rest
