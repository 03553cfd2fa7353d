-- What a covered row with an emergency command promises of a fall that the max safe front end has reached, at numbers: on
-- the line on which the speed falls to 5 km/h at 5 m, with EOA and SvL at 50 m. The foot speed of the fall is 12.5 km/h,
-- which is 187,500 notches.
use Rattle.std.proofs.Common.{◌≡◌, ◌+◌, pos, true, [], ◌∷◌, refl, ap, subst, ◌∙◌, arith}
use Rattle.std.specs.Prelude.{Ok}
use Rattle.std.proofs.lemmas.Int.{ints}
use Rattle.sdm_num.specs.Readings.{OdometerReading}
use Rattle.sdm_rules.specs.declared.authorities.Authority.{Authority}
use Rattle.sdm_rules.specs.declared.authorities.Authority.TheVariants.{Stop}
use Rattle.sdm_rules.specs.declared.data.SlopeKind.TheVariants.{Safe}
use Rattle.sdm_rules.specs.declared.records.Event.TheVariants as record_kinds
use Rattle.sdm_rules.specs.Cells.{place_of_cell}
use Rattle.sdm_rules.specs.Commands.{commands_after, emergency_after, nothing_held}
use Rattle.sdm_rules.specs.Curves.{arc, arc_back, back, corner, exact, exact_at, place_at, stepped}
use Rattle.sdm_rules.specs.Decelerations.{slope_at, slopes_of}
use Rattle.sdm_rules.specs.Limits.{limits_of, release_start}
use Rattle.sdm_rules.specs.Opening.{IsOpen}
use Rattle.sdm_rules.specs.Profile.{mrsp}
use Rattle.sdm_rules.specs.Reaction.{reaction_start, reaction_times}
use Rattle.sdm_rules.specs.Records.{journey_from, step}
use Rattle.sdm_rules.specs.Stop.{SlowsTo}
use Rattle.sdm_rules.specs.Supervision.{Supervision, after_reading, commands_in, is_covered_in, opening, profile_of}
use Rattle.sdm_rules.specs.Supervision.{row_in, row_of, state_in}
use Rattle.sdm_rules.specs.Targets.{fall_at, foot_speed_of, targets_of}
use Rattle.sdm_rules.specs.Triggers.{triggers_of}
use Rattle.sdm_laws.specs.Falls.{IsFallAhead, MeetsFalls, allowance}
use Rattle.sdm_row_laws.specs.CoveredFalls.{MeetsEachFall, most_at_fall}
use Rattle.sdm_row_laws.specs.OpenTurns.{AreTurnsPromised}
use Rattle.sdm_row_laws.specs.Tightness.{MayExceed}
use Rattle.sdm_row_laws.proofs.CoveredFalls.{covered_falls}
use Rattle.sdm_row_laws.proofs.ExactLimits.{exact_target, refuted_speed}
use Rattle.sdm_row_laws.proofs.OpenTurns.{promised_turns}
use Rattle.sdm_cases.proofs.Journeys.{plain_band, plain_national, plain_train_and_track}
use Rattle.sdm_cases.proofs.Openings.{opening_situation, situation_with}
use Rattle.sdm_cases.proofs.RowPromiseCases.{at_fall, before_open, fall, line, profile_is, turn_at}

abbrev authority : Authority
authority = Stop 5000 5000 0

abbrev far : Supervision
far = opening line authority

far_open : IsOpen far
far_open = record { bands = before_open.bands; usable = before_open.usable }

-- 10 cm before the fall and 5 cm past it at most, at 200,000 notches, which is 3.7 m/s; it gains nothing
too_fast : OdometerReading
too_fast = record at_fall { speed = 200_000; accel = pos 0; under = 0 }

-- the row is covered, with an emergency command
too_fast_covered : (row_of far too_fast).covered ≡ true
unfolding line plain_train_and_track plain_national plain_band at_fall too_fast row_in situation_with targets_of mrsp
    is_covered_in limits_of release_start reaction_times slopes_of slope_at stepped place_at corner arc arc_back back
too_fast_covered =
    ap (λ now. is_covered_in line too_fast now) (opening_situation line authority too_fast) ∙ refl

too_fast_eb : (row_of far too_fast).held.eb ≡ true
unfolding line plain_train_and_track plain_national plain_band at_fall too_fast row_in situation_with targets_of mrsp
    state_in commands_in commands_after emergency_after triggers_of limits_of release_start reaction_times slopes_of
    slope_at stepped place_at corner arc arc_back back
too_fast_eb =
    ap (λ now. (row_in line nothing_held too_fast now).held.eb) (opening_situation line authority too_fast) ∙ refl

fall_ahead : IsFallAhead far too_fast (pos 500)
unfolding line plain_train_and_track plain_national plain_band at_fall too_fast mrsp
fall_ahead = record {
  falls = rw (profile_is (pos 500), profile_is (pos 499)) refl;
  ahead = omega (arith, ints);
  by_end = omega (arith, ints);
}

-- what it promises of the fall is its speed, which is the greater one
most_is : most_at_fall far too_fast (pos 500) ≡ 200_000
unfolding line plain_train_and_track plain_national plain_band at_fall too_fast mrsp reaction_times
most_is = rw (profile_is (pos 500)) refl

-- with an under-reading of 0.1 m/s and 0.14 m/s that may be gained it would be 0.24 m/s more
most_with_gain : most_at_fall far (record at_fall { speed = 200_000 }) (pos 500) ≡ 212_960
unfolding line plain_train_and_track plain_national plain_band at_fall mrsp reaction_times
most_with_gain = rw (profile_is (pos 500)) refl

-- and of a slower train the foot speed with the gain
most_of_slow : most_at_fall far at_fall (pos 500) ≡ 200_460
unfolding line plain_train_and_track plain_national plain_band at_fall mrsp reaction_times
most_of_slow = rw (profile_is (pos 500)) refl

-- of a fall past the max safe front end, here 10 cm before it, the foot speed alone
most_ahead : most_at_fall far (record too_fast { max = pos 2_646_000_000_000 }) (pos 500) ≡ 187_500
unfolding line plain_train_and_track plain_national plain_band at_fall too_fast mrsp reaction_times
most_ahead = rw (profile_is (pos 500)) refl

-- so it promises each fall
too_fast_meets : MeetsEachFall far too_fast
too_fast_meets = covered_falls far too_fast far_open too_fast_covered

-- but not as a row without an emergency command would: some motion is above the foot speed there
too_fast_exceeds : MayExceed (slopes_of Safe line) (reaction_start line too_fast) (place_of_cell (pos 500)) 187_500
unfolding line plain_train_and_track plain_national plain_band at_fall too_fast fall limits_of reaction_times slopes_of
    slope_at exact exact_at place_at corner arc arc_back back
too_fast_exceeds =
    (exact_target far too_fast fall _ far_open ((λ x. cc), (λ x. cc))
    (record { fast = omega arith; gains = omega arith }) refl).exceeds refl

free_speed : foot_speed_of (fall_at (profile_of far) (pos 500)) + allowance line too_fast (pos 500) ≡ 187_500
unfolding line plain_train_and_track plain_national plain_band at_fall too_fast mrsp reaction_times
free_speed = rw (profile_is (pos 500)) refl

too_fast_for_a_free_row : MeetsFalls far too_fast → ⊥
too_fast_for_a_free_row h =
    let on = slopes_of Safe line in
    let start = reaction_start line too_fast in
    refuted_speed on start (place_of_cell (pos 500)) 187_500 too_fast_exceeds
    (subst (SlowsTo on start (place_of_cell (pos 500))) free_speed (h (pos 500) fall_ahead))

-- ---- in a journey

promised : AreTurnsPromised (journey_from (λ n e. Ok e) 1 far (record_kinds.Read too_fast ∷ [])).turns
promised = promised_turns (λ n e. Ok e) 1 far (record_kinds.Read too_fast ∷ []) far_open refl

-- from what a command says of its rows follows what the row promises of the fall
first_meets : SlowsTo (slopes_of Safe line) (reaction_start line too_fast) (place_of_cell (pos 500)) 200_000
unfolding turn_at after_reading step
first_meets =
    subst (SlowsTo (slopes_of Safe line) (reaction_start line too_fast) (place_of_cell (pos 500))) most_is
    (promised.each_fall 0 (turn_at far too_fast) (omega arith) too_fast_covered (pos 500) fall_ahead)
