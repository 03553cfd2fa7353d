-- A later place is clear wherever an earlier one is, since its curve lies no earlier at any speed; so where the halving
-- ends is the first clear millimetre.
use Rattle.std.proofs.Common.{◌≡◌, ℕ, ℤ, zero, suc, pos, neg_ℤ, true, false, not, ◌-◌, ◌*◌, ◌^◌, ◌<◌, ◌≤◌, ◌+ℤ◌}
use Rattle.std.proofs.Common.{◌*ℤ◌, ◌≤ℤ◌, arith, int_lt, refl, subst, sym, ◌∙◌}
use Rattle.std.specs.Prelude.{IfSome, MatchOption, Option, Some, None}
use Rattle.std.proofs.lemmas.Int.{ints}
use Rattle.std.proofs.lemmas.Bool.{false_from_ne_true, not_from_false, not-true, true≢false}
use Rattle.sdm_num.specs.Readings.{OdometerReading}
use Rattle.sdm_num.specs.Units.{place_of_mm}
use Rattle.sdm_rules.specs.declared.data.SlopeKind.TheVariants.{Expected}
use Rattle.sdm_rules.specs.declared.motions.Start.{Start}
use Rattle.sdm_rules.specs.Cells.{place_of_cell}
use Rattle.sdm_rules.specs.Curves.{stepped}
use Rattle.sdm_rules.specs.Data.{TrainAndTrack}
use Rattle.sdm_rules.specs.Decelerations.{slopes_of}
use Rattle.sdm_rules.specs.Opening.{IsOpen}
use Rattle.sdm_rules.specs.Reaction.{build_up_of, d_bec, v_bec}
use Rattle.sdm_rules.specs.Slopes.{Slopes, IsUsable}
use Rattle.sdm_rules.specs.Stop.{StopsBy}
use Rattle.sdm_rules.specs.Supervision.{Supervision}
use Rattle.sdm_laws.proofs.Openings.AcceptedSlopes.{accepted_usable}
use Rattle.sdm_laws.proofs.Rows.TripPlaces.{at_most_limit, not_past_limit}
use Rattle.sdm_order.proofs.Feet.{feet_in_order}
use Rattle.sdm_row_laws.specs.Clearances.{Allowance, IsFirstClearOf, start_with}
use Rattle.sdm_row_laws.proofs.Service.{clear_stops}
use Rattle.sdm_braking.specs.Braking.{IsSupervisable}
use Rattle.sdm_supervisor.specs.Clearances.{IsFirstCleared, clears, clears_mm}

-- a turn halves what is left
pub turn_halves : (n : ℕ) → 0 < n → 2 ^ n ≡ 2 * 2 ^ (n - 1)
turn_halves zero lt = absurd (omega arith)
turn_halves (suc n) lt = (let same : suc n - 1 ≡ n = omega arith in rw same (omega arith))

-- what is asked of the curve's place, which lies so many grains further on
pub cleared_by_place : (on : Slopes) (front : ℤ) (way speed : ℕ) (place at : ℤ) →
    at ≡ stepped on place 0 speed +ℤ neg_ℤ (pos way) → not (int_lt at front) ≡ clears on front way speed place
cleared_by_place on front way speed place at is =
    let here : pos 1 *ℤ (front +ℤ pos 0) ≡ front = omega (arith, ints) in
    let there : stepped on place 0 speed +ℤ neg_ℤ (pos (way * 1)) ≡ at = omega (arith, ints) in
    rw (here, there) refl

module _ (on : Slopes) (usable : IsUsable on) (front : ℤ) (way speed : ℕ) where
  -- what is cleared at a place is cleared at a later one
  pub later : (place place' : ℤ) → place ≤ℤ place' → clears on front way speed place ≡ true →
      clears on front way speed place' ≡ true
  later place place' le clear =
      let near = at_most_limit front (stepped on place 0 speed) way (not-true _ clear) in
      let no_later = feet_in_order on place place' 0 0 speed usable le (omega arith) in
      not_from_false _ (not_past_limit front (stepped on place' 0 speed) way (omega (arith, ints, near, no_later)))

  -- and what isn't is not at an earlier one
  pub earlier : (place place' : ℤ) → place' ≤ℤ place → clears on front way speed place ≡ false →
      clears on front way speed place' ≡ false
  earlier place place' le not_clear = false_from_ne_true _ (λ clear.
      true≢false (sym (later place' place le clear) ∙ not_clear))

  -- so of millimetres
  pub none_up_to : (middle lesser : ℕ) → lesser ≤ middle → clears_mm on front way speed middle ≡ false →
      clears_mm on front way speed lesser ≡ false
  none_up_to middle lesser le not_clear =
      earlier (place_of_mm (pos middle)) (place_of_mm (pos lesser)) (omega (arith, ints, le)) not_clear

module _ (a : Allowance) (d : TrainAndTrack) (r : OdometerReading) where
  abbrev on : Slopes
  on = slopes_of Expected d

  abbrev begins : Start
  begins = start_with a d r

  -- a train that runs as the allowance has it
  pub record IsRunUp (front : ℤ) (way speed : ℕ) : Type 0 where
    pub front_is : front ≡ begins.front
    pub way_is : way ≡ d_bec (build_up_of begins) 0
    pub speed_is : speed ≡ v_bec (build_up_of begins) 0

  -- the track's end, in mm
  end_is : (last : ℕ) → pos last ≡ pos 10 *ℤ d.track.length_cm →
      place_of_mm (pos last) ≡ place_of_cell d.track.length_cm
  end_is last is = omega (arith, ints, is)

  -- what is found up to the track's end
  pub found : IsSupervisable d → (front : ℤ) (way speed last : ℕ) → IsRunUp front way speed →
      pos last ≡ pos 10 *ℤ d.track.length_cm → (mm : Option ℕ) →
      MatchOption mm (clears_mm on front way speed last ≡ false) (IsFirstCleared on front way speed last) →
      IsFirstClearOf a d r mm
  found accepted front way speed last run is None none =
      let at_end = subst (λ (place : ℤ). clears on front way speed place ≡ false) (end_is last is) none in
      rw (run.front_is, run.way_is, run.speed_is) at at_end
  found accepted front way speed last run is (Some mm) first =
      let usable = accepted_usable Expected d accepted.train.bands (accepted.usable Expected) in
      let within = first.within in
      record {
        on_track = omega (arith, ints, is, within);
        clear = λ place le. (
            let clear = later on usable front way speed (place_of_mm (pos mm)) place le first.clear in
            rw (run.front_is, run.way_is, run.speed_is) at clear
            );
        first = λ lesser lt place le. (
            let none = earlier on usable front way speed (place_of_mm (pos lesser)) place le (first.none lesser lt) in
            rw (run.front_is, run.way_is, run.speed_is) at none
            );
      }

-- and the service brake stops the train by it
pub stops : (a : Allowance) (s : Supervision) (r : OdometerReading) → IsOpen s → (mm : Option ℕ) →
    IsFirstClearOf a s.train_and_track r mm →
    IfSome mm (λ mm. StopsBy (slopes_of Expected s.train_and_track) (start_with a s.train_and_track r)
    (place_of_mm (pos mm)))
stops a s r opened None first = tt
stops a s r opened (Some mm) first =
    clear_stops a s r (place_of_mm (pos mm)) opened (first.clear (place_of_mm (pos mm)) (omega (arith, ints)))
