-- Of two speeds the greater one fits only where the less does, since its place lies no later and it runs on further
-- until the brake works. So the greatest that fits is where halving ends.
use Rattle.std.proofs.Common.{◌≡◌, ℕ, ℤ, pos, neg_ℤ, suc, true, false, not, ◌*◌, ◌≤◌, ◌+ℤ◌, ◌*ℤ◌}
use Rattle.std.proofs.Common.{int_lt, refl, arith, sym, ◌∙◌}
use Rattle.std.proofs.lemmas.Int.{ints}
use Rattle.std.proofs.lemmas.Bool.{true≢false, not-true}
use Rattle.std.proofs.Math.Nat.{mul-le-mul_left}
use Rattle.sdm_num.specs.Units.{notches, distance_at, top_kmh}
use Rattle.sdm_num.proofs.Comparisons.{not_lt_of, lt_of}
use Rattle.sdm_rules.specs.Curves.{stepped}
use Rattle.sdm_rules.specs.Limits.{computed}
use Rattle.sdm_rules.specs.Release.{fits, latest_trip, release_speed}
use Rattle.sdm_rules.specs.Slopes.{Slopes, IsUsable}
use Rattle.sdm_rules.specs.Triggers.{is_past}
use Rattle.sdm_laws.proofs.BrakeCurves.CurveOrder.{stepped_falls}
use Rattle.sdm_laws.proofs.Rows.CalculatedRelease.{fits_unless, greatest_is}

-- a speed that is less than one that fits, fits
less_fits : (on : Slopes) → IsUsable on → (time : ℕ) (svl trip : ℤ) (v' v : ℕ) → v' ≤ v →
    fits computed on time svl trip v ≡ true → fits computed on time svl trip v' ≡ true
less_fits on usable time svl trip v' v le e =
    let later = latest_trip computed on time svl (notches v') in
    let sooner = latest_trip computed on time svl (notches v) in
    let places = stepped_falls on svl 0 (notches v') (notches v) usable (omega arith) in
    let further = mul-le-mul_left time le in
    let in_time = not_lt_of sooner.n (pos 1 *ℤ (trip +ℤ pos 0)) (not-true _ e) in
    fits_unless (is_past 0 trip later)
    (λ past. (let lt = lt_of later.n (pos 1 *ℤ (trip +ℤ pos 0)) past in omega (arith, ints)))

-- where the next speed doesn't fit, none above it does
pub halved : (on : Slopes) → IsUsable on → (time : ℕ) (svl trip : ℤ) (slow fast : ℕ) → fast ≡ suc slow →
    slow ≤ top_kmh → fits computed on time svl trip slow ≡ true →
    (fast ≤ top_kmh → fits computed on time svl trip fast ≡ false) → slow ≡ release_speed on time svl trip
unfolding release_speed
halved on usable time svl trip slow fast next top fit unfit =
    sym (greatest_is top_kmh (fits computed on time svl trip) slow top fit
    (λ j above le passes. true≢false
    (sym (less_fits on usable time svl trip fast j (omega arith) passes) ∙ unfit (omega arith))))

-- what is asked of the place of the latest trip, which lies so many grains before the curve's
pub fits_by_place : (on : Slopes) (time : ℕ) (svl trip : ℤ) (kmh : ℕ) (at : ℤ) →
    at ≡ stepped on svl 0 (notches kmh) +ℤ neg_ℤ (pos (distance_at (notches kmh) time)) →
    not (int_lt at trip) ≡ fits computed on time svl trip kmh
fits_by_place on time svl trip kmh at is =
    let here : pos 1 *ℤ (trip +ℤ pos 0) ≡ trip = omega (arith, ints) in
    let place : stepped on svl 0 (notches kmh) +ℤ neg_ℤ (pos (distance_at (notches kmh) time * 1)) ≡ at =
    omega (arith, ints) in
    rw (here, place) refl
