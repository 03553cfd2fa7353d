-- A fall past the max safe front end is a target, which the row covers. Past another one no motion is faster than V_bec,
-- which is V_est and the gain; and without an emergency command V_est is at most the fall's foot speed.
use Rattle.std.proofs.Common.{◌≡◌, ℕ, true, false, ◌+◌, ◌-◌, ◌≤◌, int_lt, max, refl, subst, arith}
use Rattle.std.specs.Prelude.{if◌then◌else◌}
use Rattle.sdm_num.specs.Readings.{estimate_of}
use Rattle.sdm_num.proofs.Comparisons.{lt_of, not_lt_of}
use Rattle.sdm_rules.specs.declared.data.SlopeKind.TheVariants.{Safe}
use Rattle.sdm_rules.specs.Cells.{cell_of, place_of_cell}
use Rattle.sdm_rules.specs.Decelerations.{slopes_of}
use Rattle.sdm_rules.specs.Reaction.{build_up_from, reaction_start, v_bec}
use Rattle.sdm_rules.specs.Stop.{SlowsTo}
use Rattle.sdm_rules.specs.Supervision.{profile_of}
use Rattle.sdm_rules.specs.Targets.{fall_at, foot_speed_of}
use Rattle.sdm_laws.specs.Falls.{gain_of}
use Rattle.sdm_laws.proofs.Rows.Falls.{is_target, never_above, slow_there}
use Rattle.sdm_laws.proofs.Rows.Headline.{stop}
use Rattle.sdm_row_laws.specs.CoveredFalls.{LawOfCoveredFalls, LawOfFreeFalls}

-- V_bec is at most V_est, or more, and the gain
within_gain : (v bec foot : ℕ) → bec ≤ max foot v + (bec - v)
within_gain v bec foot = omega arith

pub covered_falls : LawOfCoveredFalls
covered_falls s r o covered cell h =
    let d = s.train_and_track in
    let foot = foot_speed_of (fall_at (profile_of s) cell) in
    let on = slopes_of Safe d in
    let place = place_of_cell cell in
    let past = int_lt (cell_of r.max) cell in
    elim past
    as (λ b. past ≡ b → SlowsTo on (reaction_start d r) place (if b then foot else max foot r.speed + gain_of d r)) [
      | true ↦ λ e. (
          let t = is_target s r cell h (lt_of _ _ e) in
          (stop s r o covered).meets (fall_at (profile_of s) cell) t ((λ x. cc), (λ x. cc)))
      | false ↦ λ e. never_above on s r place (max foot r.speed + gain_of d r)
          (within_gain r.speed (v_bec (build_up_from d (estimate_of r)) 0) foot)
    ] refl

pub free_falls : LawOfFreeFalls
free_falls s r eb each cell h =
    let d = s.train_and_track in
    let foot = foot_speed_of (fall_at (profile_of s) cell) in
    let on = slopes_of Safe d in
    let place = place_of_cell cell in
    let past = int_lt (cell_of r.max) cell in
    elim past
    as (λ b. past ≡ b → SlowsTo on (reaction_start d r) place (if b then foot else max foot r.speed + gain_of d r) →
    SlowsTo on (reaction_start d r) place (foot + (if b then 0 else gain_of d r))) [
      | true ↦ λ e k. (
          let same : foot ≡ foot + 0 = omega arith in
          subst (SlowsTo on (reaction_start d r) place) same k)
      | false ↦ λ e k. (
          let slow = slow_there s r cell eb h.ahead (not_lt_of _ _ e) in
          let same : max foot r.speed + gain_of d r ≡ foot + gain_of d r = omega arith in
          subst (SlowsTo on (reaction_start d r) place) same k)
    ] refl (each cell h)
