-- The most restrictive speed profile and the targets of worked examples.
use Rattle.std.proofs.Common.{◌≡◌, refl, ◌*◌, ◌-◌}
use Rattle.std.specs.Prelude.{pos, negsuc, true, false, [], ◌∷◌, Some, map}
use Rattle.sdm_num.specs.Units.{centimetre}
use Rattle.sdm_rules.specs.declared.authorities.Authority.TheVariants.{Stop, Limit}
use Rattle.sdm_rules.specs.declared.targets.TargetKind.TheVariants.{Mrsp, Loa, Eoa, Svl}
use Rattle.sdm_rules.specs.Data.{TrainAndTrack}
use Rattle.sdm_rules.specs.Profile.{mrsp, lowest_between}
use Rattle.sdm_rules.specs.Targets.{targets_of, foot_speed_of}
use Rattle.sdm_cases.proofs.Journeys.{plain_band, plain_national, plain_train_and_track}

-- a train of 1 m
short_train : TrainAndTrack
short_train = plain_train_and_track (pos 100) (Some (pos 0)) plain_band [] []

-- a restriction of 80 km/h from cell 500 to 600: where its end is delayed, the front end is free at cell 700
delayed_restriction : map (mrsp short_train.train short_train.track
    (record { id = 1; start = 500; end = 600; speed = 80; delayed = true } ∷ []))
    (pos 499 ∷ pos 500 ∷ pos 699 ∷ pos 700 ∷ [])
    ≡ 160 ∷ 80 ∷ 80 ∷ 160 ∷ []
unfolding short_train plain_train_and_track plain_national plain_band mrsp
delayed_restriction = refl

-- where it isn't delayed, at cell 600
undelayed_restriction : map (mrsp short_train.train short_train.track
    (record { id = 1; start = 500; end = 600; speed = 80; delayed = false } ∷ []))
    (pos 499 ∷ pos 500 ∷ pos 599 ∷ pos 600 ∷ [])
    ≡ 160 ∷ 80 ∷ 80 ∷ 160 ∷ []
unfolding short_train plain_train_and_track plain_national plain_band mrsp
undelayed_restriction = refl

-- a restriction from cell 0 does not reach before the track, where the static profile counts
restriction_from_0 : map (mrsp short_train.train short_train.track
    (record { id = 1; start = 0; end = 600; speed = 80; delayed = true } ∷ [])) (negsuc 0 ∷ pos 0 ∷ [])
    ≡ 160 ∷ 80 ∷ []
unfolding short_train plain_train_and_track plain_national plain_band mrsp
restriction_from_0 = refl

-- of two restrictions the lower one counts, and the ceiling is the lowest between the safe front ends
lower_of_two : lowest_between (mrsp short_train.train short_train.track
    (record { id = 1; start = 500; end = 600; speed = 80; delayed = false }
    ∷ record { id = 2; start = 590; end = 610; speed = 40; delayed = false } ∷ [])) (pos (589 * centimetre))
    (pos (590 * centimetre)) ≡ 40
unfolding short_train plain_train_and_track plain_national plain_band mrsp
lower_of_two = refl

-- the fall is a target while the front end is before its cell, and none from there on
targets_before_a_fall : targets_of (mrsp short_train.train short_train.track
    (record { id = 1; start = 5; end = 600; speed = 80; delayed = true } ∷ [])) (Stop 20 20 0)
    (pos (5 * centimetre - 1)) false
    ≡ record { kind = Mrsp; place = pos (5 * centimetre); speed = 80 }
    ∷ record { kind = Eoa; place = pos (20 * centimetre); speed = 0 }
    ∷ record { kind = Svl; place = pos (20 * centimetre); speed = 0 } ∷ []
unfolding short_train plain_train_and_track plain_national plain_band mrsp targets_of
targets_before_a_fall = refl

targets_at_a_fall : targets_of (mrsp short_train.train short_train.track
    (record { id = 1; start = 5; end = 600; speed = 80; delayed = true } ∷ [])) (Limit 20 60)
    (pos (5 * centimetre)) false
    ≡ record { kind = Loa; place = pos (20 * centimetre); speed = 60 } ∷ []
unfolding short_train plain_train_and_track plain_national plain_band mrsp targets_of
targets_at_a_fall = refl

-- a fall at the end of the authority is one, and one behind it is none; in release speed monitoring the EOA and SvL
-- are none
targets_at_the_end : targets_of (mrsp short_train.train short_train.track
    (record { id = 1; start = 20; end = 600; speed = 80; delayed = true } ∷ [])) (Stop 20 30 10)
    (pos (5 * centimetre)) true
    ≡ record { kind = Mrsp; place = pos (20 * centimetre); speed = 80 } ∷ []
unfolding short_train plain_train_and_track plain_national plain_band mrsp targets_of
targets_at_the_end = refl

targets_behind_the_end : targets_of (mrsp short_train.train short_train.track
    (record { id = 1; start = 21; end = 600; speed = 80; delayed = true } ∷ [])) (Stop 20 30 10)
    (pos (5 * centimetre)) true ≡ []
unfolding short_train plain_train_and_track plain_national plain_band mrsp targets_of
targets_behind_the_end = refl

-- the foot speed of a target of 80 km/h is 87.5 km/h, that of the SvL 0
foot_speeds : map foot_speed_of (record { kind = Mrsp; place = pos 0; speed = 80 }
    ∷ record { kind = Loa; place = pos 0; speed = 80 } ∷ record { kind = Svl; place = pos 0; speed = 0 } ∷ []) ≡ 87_500
    * 15 ∷ 87_500 * 15 ∷ 0 ∷ []
foot_speeds = refl
