-- The calculated release speed: a train that is tripped at it is where the EBI of the SvL is not passed, with T_be in
-- the place of the whole reaction, so it stops; and the next whole speed doesn't fit by the computed place, which lies
-- less than a millimetre before the exact one.
use Rattle.std.proofs.Common.{◌≡◌, ℕ, ℤ, zero, suc, pos, Bool, true, false, not, nat_lt, Option, Some, None, ◌<◌}
use Rattle.std.proofs.Common.{◌≤◌, ◌+◌, ◌*◌, ◌+ℤ◌, ◌*ℤ◌, ◌≤ℤ◌, refl, sym, subst, arith, ap, ◌∙◌, inl, inr}
use Rattle.std.proofs.lemmas.Int.{ints}
use Rattle.std.proofs.lemmas.Bool.{cases_lt, true≢false, not-true, not-false, or_parts, ltb-false}
use Rattle.std.specs.Prelude.{if◌then◌else◌, IsTrue}
use Rattle.sdm_num.specs.Units.{notches, distance_at, millimetre, top_kmh}
use Rattle.sdm_num.specs.Fractions.{less}
use Rattle.sdm_num.proofs.Comparisons.{lt_of}
use Rattle.sdm_rules.specs.declared.data.SlopeKind.TheVariants.{Safe}
use Rattle.sdm_rules.specs.Cells.{place_of_cell}
use Rattle.sdm_rules.specs.Slopes.{Slopes, IsUsable}
use Rattle.sdm_rules.specs.Curves.{stepped}
use Rattle.sdm_rules.specs.Data.{TrainAndTrack}
use Rattle.sdm_rules.specs.Decelerations.{slopes_of}
use Rattle.sdm_rules.specs.Reaction.{d_bec, v_cut_off}
use Rattle.sdm_rules.specs.Limits.{computed, exact_places}
use Rattle.sdm_rules.specs.Triggers.{is_past}
use Rattle.sdm_rules.specs.Ranges.{or_else}
use Rattle.sdm_rules.specs.Records.{trip_fault}
use Rattle.sdm_rules.specs.Release.{fits, greatest_up_to, latest_trip, release_speed, t_be}
use Rattle.sdm_rules.specs.Release.{trip_start}
use Rattle.sdm_rules.specs.Stop.{StopsBy}
use Rattle.sdm_laws.specs.SupervisionLaws.{LawOfReleaseSpeed}
use Rattle.sdm_laws.proofs.BrakeCurves.CurveNearness.{near_on}
use Rattle.sdm_laws.proofs.BrakeCurves.CurveOrder.{stepped_foot}
use Rattle.sdm_laws.proofs.Openings.AcceptedSlopes.{accepted_usable}
use Rattle.sdm_laws.proofs.Rows.Nearness.{less_near, low_sooner}
use Rattle.sdm_laws.proofs.Rows.Stops.{stops_before}

-- ---- the greatest number that passes a test

-- the greater of one more and of what is found below it, by whether one more passes
by_last : (P : ℕ → Type 0) (b : Bool) (more less : ℕ) → (b ≡ true → P more) → (b ≡ false → P less) →
    P (if b then more else less)
by_last P true more less one two = one refl
by_last P false more less one two = two refl

-- it passes where 0 does
pub greatest_passes : (n : ℕ) (test : ℕ → Bool) → test 0 ≡ true → test (greatest_up_to n test) ≡ true
greatest_passes zero test first = first
greatest_passes (suc n) test first =
    by_last (λ k. test k ≡ true) (test (suc n)) (suc n) _ (λ e. e) (λ _. greatest_passes n test first)

-- no greater one does
pub greater_fails : (n : ℕ) (test : ℕ → Bool) (k : ℕ) → k ≤ n → greatest_up_to n test < k → test k ≡ false
greater_fails zero test k le lt = absurd (omega arith)
greater_fails (suc n) test k le lt =
    by_last (λ g. g < k → test k ≡ false) (test (suc n)) (suc n) (greatest_up_to n test)
    (λ e lt. absurd (omega arith))
    (λ e lt. elim (cases_lt k (suc n)) [
      | inl less ↦ greater_fails n test k (omega arith) lt
      | inr ge ↦ (let same : suc n ≡ k = omega arith in subst (λ (i : ℕ). test i ≡ false) same e)
    ]) lt

-- what passes, with none above it that does, is the greatest
pub greatest_is : (n : ℕ) (test : ℕ → Bool) (k : ℕ) → k ≤ n → test k ≡ true →
    ((j : ℕ) → k < j → j ≤ n → test j ≡ true → ⊥) → greatest_up_to n test ≡ k
greatest_is zero test k le passes none = omega arith
greatest_is (suc n) test k le passes none =
    by_last (λ g. g ≡ k) (test (suc n)) (suc n) (greatest_up_to n test)
    (λ e. elim (cases_lt k (suc n)) [ inl less ↦ absurd (none (suc n) less (omega arith) e) | inr ge ↦ omega arith ])
    (λ e. elim (cases_lt k (suc n)) [
      | inl less ↦ greatest_is n test k (omega arith) passes (λ j above le. none j above (omega arith))
      | inr ge ↦ (let same : k ≡ suc n = omega arith in
          absurd (true≢false (sym passes ∙ (ap test same ∙ e))))
    ])

-- ---- the speed that is calculated

pub fits_unless : (b : Bool) → (b ≡ true → ⊥) → not b ≡ true
fits_unless true never = absurd (never refl)
fits_unless false never = refl

-- a trip at or before the SvL fits at standstill
pub standstill_fits : (on : Slopes) (time : ℕ) (svl trip : ℤ) → trip ≤ℤ svl →
    fits computed on time svl trip 0 ≡ true
standstill_fits on time svl trip le =
    let at_foot : stepped on svl 0 0 ≡ svl = stepped_foot on svl 0 in
    fits_unless (is_past 0 trip (latest_trip computed on time svl (notches 0)))
    (λ e. (let lt = lt_of (latest_trip computed on time svl (notches 0)).n (pos 1 *ℤ (trip +ℤ pos 0)) e in
    omega (arith, ints)))

-- a train that doesn't accelerate comes its speed times the build-up time until it brakes
pub way_of_trip : (v time : ℕ) → d_bec (record { speed = v; accel1 = 0; accel2 = 0; traction = 0; berem = time }) 0
    ≡ distance_at v time
way_of_trip v time =
    let top : v_cut_off (record { speed = v; accel1 = 0; accel2 = 0; traction = 0; berem = time }) 0
    + 27 * 0 * time ≡ v = omega arith in
    omega (arith, ap (λ (k : ℕ). k * time) top)

-- what fits stops: until the brake works the train comes V * T_be further
stops_where_it_fits : (d : TrainAndTrack) → IsUsable (slopes_of Safe d) → (svl : ℤ) (trip kmh : ℕ) →
    fits computed (slopes_of Safe d) (t_be d) svl (place_of_cell (pos trip)) kmh ≡ true →
    StopsBy (slopes_of Safe d) (trip_start d trip kmh) svl
stops_where_it_fits d usable svl trip kmh e =
    let start = trip_start d trip kmh in
    stops_before (slopes_of Safe d) usable start svl (notches kmh) (distance_at (notches kmh) (t_be d)) (omega arith)
    (way_of_trip (notches kmh) (t_be d)) (not-true _ e)

-- what doesn't fit by the computed place doesn't by the exact one less a millimetre
past_exact : (on : Slopes) → IsUsable on → (time : ℕ) (svl trip : ℤ) (kmh : ℕ) →
    fits computed on time svl trip kmh ≡ false →
    IsTrue (is_past millimetre trip (latest_trip exact_places on time svl (notches kmh)))
past_exact on usable time svl trip kmh e =
    let near = less_near _ _ (distance_at (notches kmh) time) (near_on on usable svl 0 (notches kmh)) in
    (low_sooner _ _ near).passed trip (not-false _ e)

pub release_speed_is : LawOfReleaseSpeed
unfolding release_speed
release_speed_is d svl trip bands accepted le =
    let usable = accepted_usable Safe d bands accepted in
    let foot = place_of_cell (pos svl) in
    let test = fits computed (slopes_of Safe d) (t_be d) foot (place_of_cell (pos trip)) in
    let first = standstill_fits (slopes_of Safe d) (t_be d) foot (place_of_cell (pos trip)) (omega (arith, ints)) in
    record {
      stops = stops_where_it_fits d usable foot trip (greatest_up_to top_kmh test)
          (greatest_passes top_kmh test first);
      greatest = λ lt. past_exact (slopes_of Safe d) usable (t_be d) foot (place_of_cell (pos trip)) _
          (greater_fails top_kmh test (suc (greatest_up_to top_kmh test)) (omega arith) (omega arith));
    }

-- ---- the record

-- where there is no fault there is no second one
no_second : {A : Type 0} (x y : Option A) → or_else x y ≡ None → y ≡ None
no_second None y e = e
no_second (Some a) y e = absurd cc

no_fault : {A : Type 0} (b : Bool) (fault : A) → (if b then Some fault else None) ≡ None → b ≡ false
no_fault true fault e = absurd cc
no_fault false fault e = refl

-- a record that is accepted has its trip at or before the SvL
pub trip_by_svl : (length_cm : ℤ) (eoa svl trip : ℕ) → trip_fault length_cm eoa svl trip ≡ None → trip ≤ svl
trip_by_svl length_cm eoa svl trip none =
    ltb-false svl trip (or_parts (nat_lt trip eoa) (nat_lt svl trip) (no_fault _ _ (no_second _ _ none))).1
