-- What is said of a reading within the SvL: every motion from it stops at or before the SvL itself, also without
-- a release speed. The train stands, the SvL is at 10 m.
use Rattle.std.proofs.Common.{◌≡◌, ℕ, ℤ, pos, refl, sym, arith}
use Rattle.std.proofs.lemmas.Int.{ints}
use Rattle.sdm_num.specs.Readings.{OdometerReading}
use Rattle.sdm_rules.specs.declared.authorities.Authority.TheVariants.{Stop}
use Rattle.sdm_rules.specs.declared.data.SlopeKind.TheVariants.{Safe}
use Rattle.sdm_rules.specs.Decelerations.{slopes_of}
use Rattle.sdm_rules.specs.Reaction.{reaction_start, reaction_times}
use Rattle.sdm_rules.specs.Stop.{StopsBy}
use Rattle.sdm_rules.specs.Supervision.{opening}
use Rattle.sdm_rules.specs.Data.{TrainAndTrack}
use Rattle.sdm_rules.specs.Within.{StopsByItsSvl}
use Rattle.sdm_command_cases.proofs.StandingTrain.{no_stop_before, short_train, standing_at}

-- from the promise follows the stop, of a release speed of 0 as of any other
stops_at_10_m : (d : TrainAndTrack) (release : ℕ) (r : OdometerReading) →
    StopsByItsSvl (opening d (Stop 900 1_000 release)) r →
    StopsBy (slopes_of Safe d) (reaction_start d r) (pos 5_400_000_000_000)
stops_at_10_m d release r h = h 900 1_000 release refl

-- the train stands with its front end at a place, in grains
unfoldable stands_at : ℤ → OdometerReading
stands_at p = record {
  time = 0;
  est = p;
  min = p;
  max = p;
  speed = 0;
  accel = pos 0;
  under = 0;
}

start_is : (p : ℤ) → reaction_start short_train (stands_at p) ≡ standing_at p
unfolding short_train stands_at reaction_times
start_is p = refl

-- so it isn't true of a train that stands a grain past the SvL
not_a_grain_past : StopsByItsSvl (opening short_train (Stop 900 1_000 0)) (stands_at (pos 5_400_000_000_001)) → ⊥
not_a_grain_past h = no_stop_before (slopes_of Safe short_train) (pos 5_400_000_000_001) (pos 5_400_000_000_000)
    (omega (arith, ints)) (rw (sym (start_is (pos 5_400_000_000_001))) (h 900 1_000 0 refl))
