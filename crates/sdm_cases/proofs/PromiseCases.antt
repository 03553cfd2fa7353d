-- What the promises exclude: of each, something that it says is false, so that a text which promises less is seen. The
-- train is that of StopCases, which comes from 760 m at 20 m/s exactly to the SvL at 1000 m.
use Rattle.std.proofs.Common.{ℕ, pos, true, false, [], refl, arith}
use Rattle.std.proofs.lemmas.Int.{ints}
use Rattle.std.specs.Prelude.{Contains, None}
use Rattle.sdm_num.specs.Readings.{OdometerReading}
use Rattle.sdm_rules.specs.declared.authorities.Authority.TheVariants.{Stop, Limit}
use Rattle.sdm_rules.specs.declared.commands.State.TheVariants.{C}
use Rattle.sdm_rules.specs.declared.commands.Status.TheVariants.{N}
use Rattle.sdm_rules.specs.declared.data.SlopeKind.TheVariants.{Safe}
use Rattle.sdm_rules.specs.declared.rows.Row.{Row}
use Rattle.sdm_rules.specs.declared.targets.Target.{Target}
use Rattle.sdm_rules.specs.declared.targets.TargetKind.TheVariants.{Mrsp, Loa, Eoa, Svl}
use Rattle.sdm_rules.specs.Decelerations.{slopes_of}
use Rattle.sdm_rules.specs.Motion.{IsBy, KeepsTo}
use Rattle.sdm_rules.specs.Profile.{mrsp}
use Rattle.sdm_rules.specs.Promises.{IsWithinCeiling}
use Rattle.sdm_rules.specs.Reaction.{reaction_start, reaction_times}
use Rattle.sdm_rules.specs.Stop.{IsSafe, IsUncoveredSpeedTarget, MeetsTarget, SlowsTo, StopsBy, StopsBySvl}
use Rattle.sdm_rules.specs.Supervision.{opening}
use Rattle.sdm_rules.specs.Targets.{targets_of}
use Rattle.sdm_cases.proofs.Journeys.{plain_national, plain_train_and_track, reading_at}
use Rattle.sdm_cases.proofs.Openings.{opening_situation, situation_with}
use Rattle.sdm_cases.proofs.StopCases.{at_780_m, at_800_m, before_braking, before_the_front, braked_line, braking}
use Rattle.sdm_cases.proofs.StopCases.{reading_at_760_m, stands_before_the_front, stopping, stops_at_the_svl}
use Rattle.sdm_cases.proofs.StopCases.{stops_before_braking, to_780_m, to_the_svl, where_it_stands}

-- ---- points, at scale 2: four places to a grain

on_the_place : IsBy 2 (pos 10) (record { place = pos 40; square = 9 })
on_the_place = omega (arith, ints)

past_the_place : IsBy 2 (pos 10) (record { place = pos 41; square = 0 }) → ⊥
past_the_place h = omega (arith, ints, h)

-- at the place itself the speed counts
as_fast_as_it_may : KeepsTo 2 (pos 10) 3 (record { place = pos 40; square = 36 })
as_fast_as_it_may le = omega arith

too_fast : KeepsTo 2 (pos 10) 3 (record { place = pos 40; square = 37 }) → ⊥
too_fast h = let k = h (omega (arith, ints)) in omega (arith, k)

fast_before_it : KeepsTo 2 (pos 10) 3 (record { place = pos 39; square = 1_000 })
fast_before_it le = absurd (omega (arith, ints, le))

-- ---- every motion, each of its points

-- a place a grain before the SvL is passed by the last point
no_stop_before_the_svl : StopsBy (slopes_of Safe braked_line) (reaction_start braked_line reading_at_760_m)
    (pos 539_999_999_999_999) → ⊥
unfolding at_800_m braking
no_stop_before_the_svl h = let k = h to_the_svl
    stops_at_the_svl 3 at_800_m (omega arith) in omega (arith, ints, k)

-- a place a grain before the front end is passed by a train that stands, at its only point
no_stop_before_where_it_stands : StopsBy (slopes_of Safe braked_line) (reaction_start braked_line reading_at_760_m)
    (pos 410_399_999_999_999) → ⊥
unfolding where_it_stands
no_stop_before_where_it_stands h = let k = h before_the_front stands_before_the_front 0 where_it_stands (omega arith)
    in omega (arith, ints, k)

-- a notch less than the speed at 780 m is not kept at the end of a slice
not_slow_at_a_slice_end : SlowsTo (slopes_of Safe braked_line) (reaction_start braked_line reading_at_760_m)
    (pos 421_200_000_000_000) 1_079_999 → ⊥
unfolding stopping at_780_m
not_slow_at_a_slice_end h = let k = h to_780_m stops_before_braking 0
    at_780_m (omega arith) (omega (arith, ints)) in omega (arith, k)

-- nor is the speed at 850 m at a braking point
not_slow_while_braking : SlowsTo (slopes_of Safe braked_line) (reaction_start braked_line reading_at_760_m)
    (pos 459_000_000_000_000) 935_307 → ⊥
unfolding before_braking at_800_m braking
not_slow_while_braking h = let k = h to_the_svl
    stops_at_the_svl 4 at_800_m (omega arith) (omega (arith, ints)) in omega (arith, k)

-- ---- of a reading

-- an SvL a centimetre earlier is passed
no_stop_by_an_earlier_svl : StopsBySvl braked_line reading_at_760_m 99_999 → ⊥
unfolding at_800_m braking
no_stop_by_an_earlier_svl h = let k = h to_the_svl
    stops_at_the_svl 3 at_800_m (omega arith) in omega (arith, ints, k)

-- 64 km/h with its margin are 71.5 km/h; at 800 m the train may run 72 km/h
abbrev at_64_km_h : Target
at_64_km_h = record { kind = Loa; place = pos 432_000_000_000_000; speed = 64 }

too_fast_for_the_target : MeetsTarget braked_line reading_at_760_m at_64_km_h → ⊥
unfolding before_braking at_800_m braking
too_fast_for_the_target h = let k = h to_the_svl
    stops_at_the_svl 3 at_800_m (omega arith) (omega (arith, ints)) in omega (arith, k)

not_safe_before_the_svl : IsSafe (opening braked_line (Stop 99_999 99_999 0)) reading_at_760_m → ⊥
not_safe_before_the_svl h = no_stop_by_an_earlier_svl (h.stops 99_999 99_999 0 refl)

the_target_is_ahead : Contains (situation_with braked_line (Limit 80_000 64) [] reading_at_760_m).targets at_64_km_h
unfolding braked_line plain_train_and_track plain_national reading_at_760_m reading_at situation_with targets_of mrsp
the_target_is_ahead = (0, omega arith, refl)

not_safe_for_the_target : IsSafe (opening braked_line (Limit 80_000 64)) reading_at_760_m → ⊥
not_safe_for_the_target h =
    too_fast_for_the_target (h.meets at_64_km_h (rw (opening_situation braked_line (Limit 80_000 64) reading_at_760_m)
    the_target_is_ahead) ((λ e. cc), (λ e. cc)))

-- ---- why a row is not covered

-- 0.5 m/s of under-reading
abbrev reading_with_under : ℕ → OdometerReading
reading_with_under v = record {
  time = 0;
  est = pos 0;
  min = pos 0;
  max = pos 0;
  speed = v;
  accel = pos 0;
  under = 27_000;
}

-- a fall of the profile to a speed in km/h
abbrev fall_to : ℕ → Target
fall_to kmh = record { kind = Mrsp; place = pos 0; speed = kmh }

-- of a train of 72 km/h, which may be 73.8 km/h: 72.5 km/h lie between
a_gap : IsUncoveredSpeedTarget (opening braked_line (Limit 80_000 64)) (reading_with_under 1_080_000) (fall_to 65)
unfolding braked_line plain_train_and_track plain_national reaction_times
a_gap = record { is_speed = ((λ e. cc), (λ e. cc)); slow = omega arith; may_gain = omega arith }

-- 71.5 km/h are passed already
no_gap_below : IsUncoveredSpeedTarget (opening braked_line (Limit 80_000 64)) (reading_with_under 1_080_000)
    (fall_to 64) → ⊥
no_gap_below h = let k = h.slow in omega (arith, k)

-- and 74.5 km/h aren't reached
no_gap_above : IsUncoveredSpeedTarget (opening braked_line (Limit 80_000 64)) (reading_with_under 1_080_000)
    (fall_to 67) → ⊥
unfolding braked_line plain_train_and_track plain_national reaction_times
no_gap_above h = let k = h.may_gain in omega (arith, k)

-- nor is an SvL one, of a train that stands but may move
no_gap_at_an_svl : IsUncoveredSpeedTarget (opening braked_line (Limit 80_000 64)) (reading_with_under 0)
    (record { kind = Svl; place = pos 0; speed = 0 }) → ⊥
no_gap_at_an_svl h = h.is_speed.1 refl

-- nor an EOA
no_gap_at_an_eoa : IsUncoveredSpeedTarget (opening braked_line (Limit 80_000 64)) (reading_with_under 0)
    (record { kind = Eoa; place = pos 0; speed = 0 }) → ⊥
no_gap_at_an_eoa h = h.is_speed.0 refl

-- ---- the ceiling

-- a row with a ceiling of 160 km/h and no limits
abbrev row_below_160 : Row
row_below_160 = record {
  time = 0;
  state = C;
  held = record {
    tco = false;
    sb = false;
    eb = false;
    status = N;
  };
  covered = true;
  ceiling = 160;
  ebi = None;
  sbi = None;
  warning =
      None;
  permitted = None;
  indication = None;
}

-- 171.25 km/h
at_the_ceiling : IsWithinCeiling (reading_at 0 (pos 0) 2_568_750) row_below_160
unfolding reading_at
at_the_ceiling = omega arith

-- and a notch more is above it
above_the_ceiling : IsWithinCeiling (reading_at 0 (pos 0) 2_568_751) row_below_160 → ⊥
unfolding reading_at
above_the_ceiling h = omega (arith, h)
