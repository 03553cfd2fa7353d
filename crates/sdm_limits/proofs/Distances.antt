-- The distance of the reaction is the distance until the traction is cut off and the distance after that, each at a
-- mean speed.
use Rattle.std.proofs.Common.{◌≡◌, ℕ, ◌+◌, ◌*◌, ◌/◌, max, arith, subst}
use Rattle.sdm_num.specs.Units.{distance_at}
use Rattle.sdm_rules.specs.Reaction.{BuildUp, v_cut_off, d_bec}

-- half of a gain of speed is a gain at half the rate
half_gain : (gain accel time : ℕ) → gain ≡ 54 * accel * time → gain / 2 ≡ 27 * accel * time
half_gain gain accel time is = omega arith

-- both distances, at a mean speed and at half a gain past the speed at the cut-off
both_distances : (mean cut half traction berem before after : ℕ) → before ≡ distance_at mean traction →
    after ≡ distance_at (cut + half) berem → before + after ≡ 1_000_000 * (mean * traction + (cut + half) * berem)
both_distances mean cut half traction berem before after before_is after_is = omega arith

-- D_bec by the gains of speed V_delta1 and V_delta2
pub d_bec_is :
    (b : BuildUp) (target v_delta1 v_delta2 mean cut before after : ℕ) →
    v_delta1 ≡ 54 * b.accel1 * b.traction →
    v_delta2 ≡ 54 * b.accel2 * b.berem →
    mean ≡ max (b.speed + v_delta1 / 2) target →
    cut ≡ v_cut_off b target →
    before ≡ distance_at mean b.traction →
    after ≡ distance_at (cut + v_delta2 / 2) b.berem →
    before + after ≡ d_bec b target
d_bec_is b target v_delta1 v_delta2 mean cut before after one two mean_is cut_is before_is after_is =
    let both = both_distances mean cut (v_delta2 / 2) b.traction b.berem before after before_is after_is in
    let means : mean ≡ max (b.speed + 27 * b.accel1 * b.traction) target =
    subst (λ (h : ℕ). mean ≡ max (b.speed + h) target) (half_gain v_delta1 b.accel1 b.traction one) mean_is in
    let halved = subst (λ (h : ℕ). before + after ≡ 1_000_000 * (mean * b.traction + (cut + h) * b.berem))
    (half_gain v_delta2 b.accel2 b.berem two) both in
    let with_cut = subst (λ (k : ℕ). before + after ≡ 1_000_000
    * (mean * b.traction + (k + 27 * b.accel2 * b.berem) * b.berem)) cut_is halved in
    subst (λ (k : ℕ). before + after ≡ 1_000_000
    * (k * b.traction + (v_cut_off b target + 27 * b.accel2 * b.berem) * b.berem)) means with_cut
