-- Whether marks hold is decided: there are finitely many bands, and finitely many cells between two marks; over a way
-- the slope can only be that of the first cell, and with no way any slope does.
use Rattle.std.proofs.Common.{◌≡◌, ◌↔◌, ℕ, ℤ, suc, pos, neg_ℤ, Bool, List, [], ◌∷◌, ◌-◌, ◌*◌, ◌<◌, ◌+ℤ◌, ◌*ℤ◌}
use Rattle.std.proofs.Common.{◌≤ℤ◌, ◌<ℤ◌, length, unsigned_abs, refl, sym, subst, arith, inl, inr}
use Rattle.std.specs.Prelude.{IsTrue}
use Rattle.std.proofs.lemmas.Int.{ints, by_lt_z}
use Rattle.std.proofs.lemmas.Bool.{cases_eq}
use Rattle.sdm_num.specs.Units.{centimetre}
use Rattle.sdm_rules.specs.declared.certificates.Claim.{Claim}
use Rattle.sdm_rules.specs.declared.certificates.Mark.{Mark}
use Rattle.sdm_rules.specs.Certificates.{Hold, IsBeginning, IsEnergyIn, IsNext, LeadTo, TakesEnough, d_bec_of, v_bec_of}
use Rattle.sdm_rules.specs.Curves.{cell_at, cell_start, grain_energy, upper_square}
use Rattle.sdm_rules.specs.Motion.{HasPart, lower_square}
use Rattle.sdm_rules.specs.Slopes.{Slopes}
use Rattle.sdm_laws.proofs.Moving.Braking.{part_at}
use Rattle.sdm_laws.proofs.OneBand.Cells.{cell_reaches, cell_stays}
use Rattle.sdm_motion.proofs.SegmentParts.{start_next}
use Rattle.sdm_certify.specs.Steps.{IsNextIn, TakesEnoughIn}
use Rattle.sdm_certify.proofs.Decisions.{IsDecided, all_below, answer_of, both_decided, decided_as, le_decided}
use Rattle.sdm_certify.proofs.Decisions.{le_z_decided, lt_decided, lt_z_decided, some_below, then_decided}

-- ---- from one mark to the next

-- that an energy lies in a band
energy_decided : (on : Slopes) (band e : ℕ) → IsDecided (IsEnergyIn on band e)
energy_decided on band e =
    let above = le_decided (grain_energy on (lower_square on 1 band)) e in
    let below = then_decided (lt_decided band (length on.uppers))
    (le_decided e (grain_energy on (upper_square on 1 band))) in
    decided_as (both_decided (le_decided band (length on.uppers)) (both_decided above below))
    (λ h. record { known = h.0; above = h.1.0; below = h.1.1 }) (λ h. (h.known, (h.above, h.below)))

module _ (on : Slopes) (band : ℕ) (x y : Mark) where
  -- the cell of the first mark
  abbrev first : ℤ
  first = cell_at 1 x.place

  -- how many cells there are up to that of the second one
  abbrev cells : ℕ
  cells = suc (unsigned_abs (cell_at 1 y.place +ℤ neg_ℤ first))

  -- all cells on the way have the slope
  abbrev IsSlopeOn : ℕ → Type 0
  IsSlopeOn s = (cell : ℤ) → HasPart 1 cell x.place y.place → on.slope band cell ≡ s

  -- that a cell has a part on the way
  part_decided : (cell : ℤ) → IsDecided (HasPart 1 cell x.place y.place)
  part_decided cell =
      decided_as
      (both_decided (lt_z_decided x.place y.place)
      (both_decided (lt_z_decided (cell_start 1 cell) y.place)
      (lt_z_decided x.place (cell_start 1 cell +ℤ pos (1 * centimetre)))))
      (λ h. record { apart = h.0; begins = h.1.0; ends = h.1.1 }) (λ h. (h.apart, (h.begins, h.ends)))

  -- only those cells have one
  cell_known : (cell : ℤ) → HasPart 1 cell x.place y.place → (k : ℕ) × ((k < cells) × (first +ℤ pos k ≡ cell))
  cell_known cell part =
      let ends = part.ends in
      let begins = part.begins in
      let next = start_next 1 cell in
      let low = cell_stays 1 (cell +ℤ pos 1) x.place (omega arith) (omega (arith, ints, next, ends)) in
      let high = cell_reaches 1 cell y.place (omega arith) (omega (arith, ints, begins)) in (
        unsigned_abs (cell +ℤ neg_ℤ first),
        (omega (arith, ints, low, high), omega (arith, ints, low)),
      )

  -- so it is decided that all have the slope
  slope_decided : (s : ℕ) → IsDecided (IsSlopeOn s)
  slope_decided s =
      decided_as
      (all_below (λ k. HasPart 1 (first +ℤ pos k) x.place y.place → on.slope band (first +ℤ pos k) ≡ s)
      (λ k. then_decided (part_decided (first +ℤ pos k)) (cases_eq (on.slope band (first +ℤ pos k)) s)) cells)
      (λ h cell part. let w = cell_known cell part in
      subst (λ (c : ℤ). HasPart 1 c x.place y.place → on.slope band c ≡ s) w.1.1 (h w.0 w.1.0) part)
      (λ h k lt. h (first +ℤ pos k))

  -- that the way takes enough with a slope
  enough_decided : (s : ℕ) → IsDecided (TakesEnough s x y)
  enough_decided s =
      le_z_decided (pos (27 * s) *ℤ x.place +ℤ pos (x.energy - y.energy)) (pos (27 * s) *ℤ y.place)

  -- over a way the slope can only be that of the first cell
  takes_over : x.place <ℤ y.place → IsDecided (TakesEnoughIn on band x y)
  takes_over lt =
      let s = on.slope band first in
      decided_as (both_decided (slope_decided s) (enough_decided s))
      (λ h. record { slope = s; one_slope = h.0; enough = h.1 })
      (λ h. let is = h.one_slope first (part_at 1 x.place y.place (omega arith) lt) in
      subst (λ (t : ℕ). IsSlopeOn t × TakesEnough t x y) (sym is) (h.one_slope, h.enough))

  -- with no way any slope does, where no energy is lost
  takes_none : x.place ≡ y.place → IsDecided (TakesEnoughIn on band x y)
  takes_none same =
      decided_as (le_decided x.energy y.energy)
      (λ le. record {
        slope = 0;
        one_slope = λ cell part. absurd (let lt = part.apart in omega (arith, ints, lt, same));
        enough = omega (arith, ints, le);
      })
      (λ h. let enough = rw (← same) at h.enough in omega (arith, ints, enough))

  -- one or the other
  takes_decided : x.place ≤ℤ y.place → IsDecided (TakesEnoughIn on band x y)
  takes_decided forward =
      by_lt_z x.place y.place (λ (lt : x.place <ℤ y.place). takes_over lt)
      (λ (le : y.place ≤ℤ x.place). takes_none (omega (arith, ints, le, forward)))

  -- that the one mark may follow the other in the band
  next_in_decided : IsDecided (IsNextIn on band x y)
  next_in_decided = elim (le_z_decided x.place y.place) [
    | inr never ↦ inr (λ h. never h.forward)
    | inl forward ↦ decided_as
        (both_decided (le_decided y.energy x.energy)
        (both_decided (energy_decided on band x.energy)
        (both_decided (energy_decided on band y.energy) (takes_decided forward))))
        (λ h. record { forward = forward; falls = h.0; from_band = h.1.0; to_band = h.1.1.0; takes = h.1.1.1 })
        (λ h. (h.falls, (h.from_band, (h.to_band, h.takes))))
  ]

-- that it may in some band
next_decided : (on : Slopes) (x y : Mark) → IsDecided (IsNext on x y)
next_decided on x y =
    decided_as
    (some_below (λ band. IsNextIn on band x y) (λ band. next_in_decided on band x y) (suc (length on.uppers)))
    (λ w. let h = w.1.1 in record {
      band = w.0;
      slope = h.takes.slope;
      forward = h.forward;
      falls = h.falls;
      from_band = h.from_band;
      to_band = h.to_band;
      one_slope = h.takes.one_slope;
      enough = h.takes.enough;
    })
    (λ h. let known = h.from_band.known in (
      h.band,
      (
        omega (arith, known),
        record {
          forward = h.forward;
          falls = h.falls;
          from_band = h.from_band;
          to_band = h.to_band;
          takes = record { slope = h.slope; one_slope = h.one_slope; enough = h.enough };
        },
      ),
    ))

-- ---- from the first mark to the last

-- that marks lead to the place
lead_decided : (on : Slopes) (svl : ℤ) (x : Mark) (ys : List Mark) → IsDecided (LeadTo on svl x ys)
lead_decided on svl x [] = both_decided (cases_eq x.energy 0) (le_z_decided x.place svl)
lead_decided on svl x (y ∷ ys) = both_decided (next_decided on x y) (lead_decided on svl y ys)

-- that they begin where the claim wants it
beginning_decided : (on : Slopes) (c : Claim) (x : Mark) → IsDecided (IsBeginning on c x)
beginning_decided on c x =
    decided_as
    (both_decided (le_z_decided (c.front +ℤ pos (d_bec_of c)) x.place)
    (le_decided (grain_energy on (v_bec_of c * v_bec_of c)) x.energy))
    (λ h. record { place = h.0; energy = h.1 }) (λ h. (h.place, h.energy))

-- that they hold
pub marks_decided : (on : Slopes) (c : Claim) (marks : List Mark) → IsDecided (Hold on c marks)
marks_decided on c [] = inr (λ h. let none = h.split in absurd cc)
marks_decided on c (x ∷ ys) =
    decided_as (both_decided (beginning_decided on c x) (lead_decided on c.svl x ys))
    (λ h. record { first = x; more = ys; split = refl; begins = h.0; lead = h.1 }) parts
  where
    parts : Hold on c (x ∷ ys) → IsBeginning on c x × LeadTo on c.svl x ys
    parts h =
        let split = h.split in
        let first_is : h.first ≡ x = cc in
        let more_is : h.more ≡ ys = cc in
        subst (λ (both : Mark × List Mark). IsBeginning on c both.0 × LeadTo on c.svl both.0 both.1)
        (λ i. (first_is i, more_is i)) (h.begins, h.lead)

-- so there is an answer
pub hold_decided : (on : Slopes) (c : Claim) (marks : List Mark) → (yes : Bool) × (IsTrue yes ↔ Hold on c marks)
hold_decided on c marks = answer_of (marks_decided on c marks)
