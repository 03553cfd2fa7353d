-- What is written of a first clear place, or of none, is what the supervisor answers.
use Rattle.std.proofs.Common.{◌≡◌, ◌∙◌, ℕ, zero, suc, pos, Bool, true, false, inl, inr, ◌&&◌, ◌+◌, ◌<◌, ◌≤◌}
use Rattle.std.proofs.Common.{◌*ℤ◌, Option, Some, None, ap, arith, refl, sym}
use Rattle.std.proofs.lemmas.Bool.Decides.{eqb_tells}
use Rattle.std.proofs.lemmas.Int.{ints}
use Rattle.std.specs.Prelude.{IfSome, IsTrue, option_map, unsigned_abs}
use Rattle.sdm_num.specs.Readings.{OdometerReading}
use Rattle.sdm_num.specs.Units.{place_of_mm}
use Rattle.sdm_rules.specs.declared.data.SlopeKind.TheVariants.{Expected}
use Rattle.sdm_rules.specs.Data.{TrainAndTrack}
use Rattle.sdm_rules.specs.Decelerations.{slopes_of}
use Rattle.sdm_rules.specs.Stop.{StopsBy}
use Rattle.sdm_rules.specs.Cells.{place_of_cell}
use Rattle.sdm_rules.specs.Supervision.{Supervision}
use Rattle.sdm_row_laws.specs.Clearances.{Allowance, IsFirstClearOf, is_clear_of, start_with}
use Rattle.sdm_c.specs.declared.structs.AllowanceC.{AllowanceC}
use Rattle.sdm_c.specs.declared.structs.PlaceC.{PlaceC}
use Rattle.sdm_c.specs.declared.structs.ReadingC.{ReadingC}
use Rattle.sdm_c.specs.Clearances.{IsClearPlace, first_clear, first_clear_in_c, first_from}
use Rattle.sdm_c.specs.Codes.{place_in_c}
use Rattle.sdm_c.specs.Numbers.{allowance_from, reading_from}
use Rattle.sdm_c.specs.Statuses.{done, in_range, out_of_range}

-- numbers out of their ranges, of the first kind or the second
pub first_out : (x y : Bool) → (IsTrue x → ⊥) → out_of_range ≡ in_range (x && y) done
first_out true y never = absurd (never refl)
first_out false y never = refl

pub second_out : (x y : Bool) → (IsTrue y → ⊥) → out_of_range ≡ in_range (x && y) done
second_out true true never = absurd (never refl)
second_out true false never = refl
second_out false y never = refl

module _ (d : TrainAndTrack) (r : ReadingC) (a : AllowanceC) where
  -- every motion by the allowance stops by the place, if there is one
  abbrev Stops : PlaceC → Type 0
  Stops place = place.is_some ≡ 1 →
      StopsBy (slopes_of Expected d) (start_with (allowance_from a) d (reading_from r)) (place_of_mm place.mm)

  -- both are told of what was found
  pub told : (found : Option ℕ) (place : PlaceC) → place ≡ place_in_c (option_map (λ mm. pos mm) found) →
      IsFirstClearOf (allowance_from a) d (reading_from r) found →
      IfSome found (λ mm. StopsBy (slopes_of Expected d) (start_with (allowance_from a) d (reading_from r))
      (place_of_mm (pos mm))) →
      IsClearPlace d r a place × Stops place
  told None place is first stops = (record { found = None; told = is; first = first }, λ some. absurd cc)
  told (Some mm) place is first stops = (record { found = Some mm; told = is; first = first }, λ some. rw is stops)

-- ---- the place as a value

-- the first number is found where it is: what comes before it isn't so
module _ (is : ℕ → Bool) (first : ℕ) (so : is first ≡ true) (none : (lesser : ℕ) → lesser < first → is lesser ≡ false) where
  reached : (more at : ℕ) → at ≤ first → first ≤ at + more → first_from is more at ≡ first
  unfolding first_from
  reached zero at le within = omega (arith, le, within)
  reached (suc more) at le within = elim (eqb_tells at first) [
    | inl e ↦ (let here : is at ≡ true = ap is e.1 ∙ so in rw here e.1)
    | inr e ↦ (
        let here : is at ≡ false = none at (omega (arith, le, e.1)) in
        rw here (reached more (suc at) (omega (arith, le, e.1)) (omega (arith, within)))
        )
  ]

module _ (a : Allowance) (d : TrainAndTrack) (r : OdometerReading) where
  -- there is one first clear place of a track, or none
  same_first : (found : Option ℕ) → IsFirstClearOf a d r found → found ≡ first_clear a d r
  unfolding first_clear
  same_first None none = rw none refl
  same_first (Some mm) first =
      let on_track = first.on_track in
      let at_end : is_clear_of a d r (place_of_cell d.track.length_cm) ≡ true =
      first.clear (place_of_cell d.track.length_cm) (omega (arith, ints, on_track)) in
      let found : first_from (λ mm. is_clear_of a d r (place_of_mm (pos mm)))
      (unsigned_abs (pos 10 *ℤ d.track.length_cm)) 0 ≡ mm =
      reached (λ mm. is_clear_of a d r (place_of_mm (pos mm))) mm
      (first.clear (place_of_mm (pos mm)) (omega (arith, ints)))
      (λ lesser lt. first.first lesser lt (place_of_mm (pos lesser)) (omega (arith, ints)))
      (unsigned_abs (pos 10 *ℤ d.track.length_cm)) 0 (omega arith) (omega (arith, ints, on_track)) in
      rw at_end (ap Some (sym found))

-- so what is written is that value
pub as_value : (s : Supervision) (r : ReadingC) (a : AllowanceC) (place : PlaceC) →
    IsClearPlace s.train_and_track r a place → place ≡ first_clear_in_c s r a
as_value s r a place is =
    is.told ∙ ap (λ (o : Option ℕ). place_in_c (option_map (λ mm. pos mm) o))
    (same_first (allowance_from a) s.train_and_track (reading_from r) is.found is.first)
