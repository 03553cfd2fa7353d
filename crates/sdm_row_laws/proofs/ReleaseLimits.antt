-- The latest trip and the start of release speed monitoring are exact limits of a train that gains nothing: the place of
-- its speed on the curve, less the way until the brake works. What is past a computed one is past the exact one a
-- millimetre later.
use Rattle.std.proofs.Common.{◌≡◌, ◌⊎◌, ℕ, ℤ, suc, pos, Bool, true, false, ◌<◌, ◌+ℤ◌}
use Rattle.std.proofs.Common.{refl, sym, arith, ◌∙◌, inl, inr}
use Rattle.std.proofs.lemmas.Int.{ints}
use Rattle.std.proofs.lemmas.Bool.{true≢false}
use Rattle.sdm_num.specs.Units.{distance_at, millimetre, notches}
use Rattle.sdm_num.specs.Fractions.{Fraction, less, lesser}
use Rattle.sdm_num.proofs.Order.{lesser_cases}
use Rattle.sdm_rules.specs.declared.data.SlopeKind.TheVariants.{Expected, Safe}
use Rattle.sdm_rules.specs.Cells.{place_of_cell}
use Rattle.sdm_rules.specs.Curves.{exact}
use Rattle.sdm_rules.specs.Decelerations.{slopes_of}
use Rattle.sdm_rules.specs.Limits.{exact_places, release_start}
use Rattle.sdm_rules.specs.Release.{calculated, latest_trip, t_be}
use Rattle.sdm_rules.specs.Slopes.{Slopes, IsUsable}
use Rattle.sdm_rules.specs.Triggers.{is_past}
use Rattle.sdm_laws.proofs.BrakeCurves.CurveNearness.{near_on}
use Rattle.sdm_laws.proofs.Rows.CalculatedRelease.{release_speed_is, way_of_trip}
use Rattle.sdm_laws.proofs.Rows.Headline.{open_usable}
use Rattle.sdm_laws.proofs.Rows.Nearness.{at_most_sooner}
use Rattle.sdm_laws.proofs.Rows.ReleaseStart.{begins_release_monitoring_at}
use Rattle.sdm_row_laws.specs.ReleaseLimits.{LawOfExactStart, LawOfExactTrip, LawOfTightRelease, LawOfTightStart}
use Rattle.sdm_row_laws.specs.ReleaseLimits.{until_emergency, until_service}
use Rattle.sdm_row_laws.specs.Tightness.{IsExactLimit}
use Rattle.sdm_row_laws.proofs.ExactLimits.{exact_limit}

-- a front end a millimetre further on is past a limit where the front end is past one a millimetre earlier
further : (limit : Fraction) (front : ℤ) → is_past millimetre front limit ≡ true →
    is_past 0 (front +ℤ pos millimetre) limit ≡ true
further limit front e =
    let same : (front +ℤ pos millimetre) ≡ (front +ℤ pos millimetre) +ℤ pos 0 = omega (arith, ints) in rw same at e

-- the limit of a train that keeps its speed until the brake works
steady_limit : (on : Slopes) → IsUsable on → (front f : ℤ) (v time : ℕ) →
    IsExactLimit on (record { front = front; speed = v; accel1 = 0; accel2 = 0; traction = 0; berem = time }) f
    (less (exact on f 0 v) (distance_at v time))
steady_limit on usable front f v time =
    exact_limit on usable (record { front = front; speed = v; accel1 = 0; accel2 = 0; traction = 0; berem = time }) f v
    (distance_at v time) (omega arith) (way_of_trip v time)

-- ---- the trip

pub exact_trip : LawOfExactTrip
exact_trip s svl trip kmh o =
    let d = s.train_and_track in
    steady_limit (slopes_of Safe d) (open_usable s o Safe) (place_of_cell (pos trip)) (place_of_cell (pos svl))
    (notches kmh) (t_be d)

pub tight_release : LawOfTightRelease
tight_release s svl trip o le lt =
    let d = s.train_and_track in
    let on = slopes_of Safe d in
    let foot = place_of_cell (pos svl) in
    let place = place_of_cell (pos trip) in
    let kmh = suc (calculated d svl trip) in
    (steady_limit on (open_usable s o Safe) (place +ℤ pos millimetre) foot (notches kmh) (t_be d)).passes
    (further (latest_trip exact_places on (t_be d) foot (notches kmh)) place
    ((release_speed_is d svl trip o.bands (o.usable Safe) le).greatest lt))

-- ---- the start

-- past the lesser of two is past one of them
past_lesser : (front : ℤ) (x y : Fraction) → is_past 0 front (lesser x y) ≡ true →
    (is_past 0 front x ≡ true) ⊎ (is_past 0 front y ≡ true)
past_lesser front x y =
    lesser_cases (λ z. is_past 0 front z ≡ true → (is_past 0 front x ≡ true) ⊎ (is_past 0 front y ≡ true)) x y
    (λ _ e. inl e) (λ _ e. inr e)

-- and past each of two is past the lesser
past_left : (front : ℤ) (x y : Fraction) → 0 < y.m → is_past 0 front x ≡ true → is_past 0 front (lesser x y) ≡ true
past_left front x y y_pos e =
    lesser_cases (λ z. is_past 0 front z ≡ true) x y (λ _. e) (λ le. (at_most_sooner y x y_pos le).passed front e)

past_right : (front : ℤ) (x y : Fraction) → 0 < x.m → is_past 0 front y ≡ true → is_past 0 front (lesser x y) ≡ true
past_right front x y x_pos e =
    lesser_cases (λ z. is_past 0 front z ≡ true) x y (λ le. (at_most_sooner x y x_pos le).passed front e) (λ _. e)

false_unless : (b : Bool) → (b ≡ true → ⊥) → b ≡ false
false_unless true never = absurd (never refl)
false_unless false never = refl

not_implied : (b c : Bool) → (b ≡ true → c ≡ true) → c ≡ false → b ≡ false
not_implied b c h e = false_unless b (λ is. true≢false (sym (h is) ∙ e))

pub exact_start : LawOfExactStart
unfolding release_start
exact_start s eoa svl release front o =
    let d = s.train_and_track in
    let v = notches release in
    let end = place_of_cell (pos eoa) in
    let foot = place_of_cell (pos svl) in
    let usable = open_usable s o in
    let sbd = less (exact (slopes_of Expected d) end 0 v) (distance_at v (until_service d)) in
    let ebd = less (exact (slopes_of Safe d) foot 0 v) (distance_at v (until_emergency d)) in
    let by_eoa = steady_limit (slopes_of Expected d) (usable Expected) front end v (until_service d) in
    let by_svl = steady_limit (slopes_of Safe d) (usable Safe) front foot v (until_emergency d) in
    let sbd_pos = (near_on (slopes_of Expected d) (usable Expected) end 0 v).positive in
    let ebd_pos = (near_on (slopes_of Safe d) (usable Safe) foot 0 v).positive in
    record {
      stops = λ e. record {
        by_eoa = by_eoa.stops (not_implied (is_past 0 front sbd) _ (past_left front sbd ebd ebd_pos) e);
        by_svl = by_svl.stops (not_implied (is_past 0 front ebd) _ (past_right front sbd ebd sbd_pos) e);
      };
      passes = λ e. elim (past_lesser front sbd ebd e) [
        | inl x ↦ inl (by_eoa.passes x)
        | inr x ↦ inr (by_svl.passes x)
      ];
    }

pub tight_start : LawOfTightStart
tight_start s r eoa svl release o is some =
    let start = release_start exact_places s.train_and_track eoa svl release in
    let begins = begins_release_monitoring_at s r eoa svl release (open_usable s o) is some in
    record {
      not_yet = λ not. (exact_start s eoa svl release r.max o).stops
          (false_unless (is_past 0 r.max start) (λ past. not (begins.always past)));
      needed = λ state. (exact_start s eoa svl release (r.max +ℤ pos millimetre) o).passes
          (further start r.max (begins.only state));
    }
