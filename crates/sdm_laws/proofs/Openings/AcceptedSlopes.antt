-- The slopes of accepted data are usable: each band but the last has an upper speed and these rise; each slope is
-- above 0, since it is at least 0.05 m/s²; and in one band they differ no more than they may, over all pairs of cells.
use Rattle.std.proofs.Common.{◌≡◌, ℕ, ℤ, zero, suc, pos, negsuc, Option, Some, None, List, [], ◌∷◌, unsigned_abs}
use Rattle.std.proofs.Common.{length, slice_index, ◌*◌, ◌<◌, ◌≤◌, ◌*ℤ◌, ◌≤ℤ◌, arith, refl, ap, sym, subst}
use Rattle.std.proofs.lemmas.Int.{ints}
use Rattle.std.specs.Prelude.{option_map}
use Rattle.sdm_num.specs.Units.{notches}
use Rattle.sdm_rules.specs.declared.data.Band.{Band}
use Rattle.sdm_rules.specs.declared.data.SlopeKind.{SlopeKind}
use Rattle.sdm_rules.specs.Slopes.{IsUsable, bands_of, variation, IsStrongSlope}
use Rattle.sdm_rules.specs.Data.{TrainAndTrack, HasBands, AreBands}
use Rattle.sdm_rules.specs.Decelerations.{q_of, slope_at, slopes_of, uppers_of}
use Rattle.sdm_rules.specs.Opening.{IsAcceptedKind, IsStrongAt, variation_of}

-- ---- bands

-- the upper speed of a band, in notches
upper_notches : Band → Option ℕ
upper_notches b = option_map (λ v. notches (unsigned_abs v)) b.upper

-- a band with an upper speed gives a border
uppers_of-next : (b : Band) (bs : List Band) (upper : ℤ) → b.upper ≡ Some upper →
    uppers_of (b ∷ bs) ≡ notches (unsigned_abs upper) ∷ uppers_of bs
uppers_of-next b bs upper e = ap (λ (o : Option ℤ). uppers_of (record b { upper = o } ∷ bs)) e

-- the last band gives none
uppers_of-last : (b : Band) → b.upper ≡ None → uppers_of (b ∷ []) ≡ []
uppers_of-last b e = ap (λ (o : Option ℤ). uppers_of (record b { upper = o } ∷ [])) e

-- there is one upper speed less than there are bands
pub bands_counted : (above : ℤ) (bands : List Band) → AreBands above bands → bands_of (uppers_of bands) ≡ length bands
bands_counted above [] h = absurd h
bands_counted above (b ∷ []) h = rw (uppers_of-last b h) refl
bands_counted above (b ∷ next ∷ more) (upper, is, rises, rest) =
    let counted = bands_counted upper (next ∷ more) rest in
    rw (uppers_of-next b (next ∷ more) upper is) (omega (arith, counted))

-- each upper speed is above the one that the bands begin with
above_first : (above : ℤ) (bands : List Band) (i : ℕ) → AreBands above bands → pos 0 ≤ℤ above →
    i < length (uppers_of bands) → notches (unsigned_abs above) < slice_index (uppers_of bands) i
above_first above [] i h p lt = absurd h
above_first above (b ∷ []) i h p lt = absurd (let e = ap (length {A = ℕ}) (uppers_of-last b h) in omega arith)
above_first above (b ∷ next ∷ more) zero (upper, is, rises, rest) p lt =
    rw (uppers_of-next b (next ∷ more) upper is) (omega (arith, ints))
above_first above (b ∷ next ∷ more) (suc i) (upper, is, rises, rest) p lt =
    let e = uppers_of-next b (next ∷ more) upper is in
    let known = rw e at lt in
    let further = above_first upper (next ∷ more) i rest (omega (arith, ints)) (omega arith) in
    rw e (omega (arith, ints))

-- the upper speeds rise
pub uppers_rise : (above : ℤ) (bands : List Band) (i j : ℕ) → AreBands above bands → pos 0 ≤ℤ above → i ≤ j →
    j < length (uppers_of bands) → slice_index (uppers_of bands) i ≤ slice_index (uppers_of bands) j
uppers_rise above [] i j h p le lt = absurd h
uppers_rise above (b ∷ []) i j h p le lt = absurd (let e = ap (length {A = ℕ}) (uppers_of-last b h) in omega arith)
uppers_rise above (b ∷ next ∷ more) zero zero h p le lt = omega arith
uppers_rise above (b ∷ next ∷ more) (suc i) zero h p le lt = absurd (omega arith)
uppers_rise above (b ∷ next ∷ more) zero (suc j) (upper, is, rises, rest) p le lt =
    let e = uppers_of-next b (next ∷ more) upper is in
    let known = rw e at lt in
    let further = above_first upper (next ∷ more) j rest (omega (arith, ints)) (omega arith) in
    rw e (omega arith)
uppers_rise above (b ∷ next ∷ more) (suc i) (suc j) (upper, is, rises, rest) p le lt =
    let e = uppers_of-next b (next ∷ more) upper is in
    let known = rw e at lt in
    rw e (uppers_rise upper (next ∷ more) i j rest (omega (arith, ints)) (omega arith) (omega arith))

-- ---- slopes

q_positive : (mass : Option ℤ) → 0 < q_of mass
q_positive (Some m) = omega arith
q_positive None = omega arith

-- the cell whose slope counts: cell 0 before the track
abbrev pub cell_from : ℤ → ℕ
cell_from (pos n) = n
cell_from (negsuc n) = 0

-- before the track a slope is that of cell 0
pub slope_from : (kind : SlopeKind) (d : TrainAndTrack) (band : ℕ) (c : ℤ) →
    slope_at kind d band c ≡ slope_at kind d band (pos (cell_from c))
unfolding slope_at
slope_from kind d band (pos n) = refl
slope_from kind d band (negsuc n) = refl

-- a slope of at least 0.05 m/s² is above 0
strong_positive : (a : ℤ) (q : ℕ) → 0 < q → IsStrongSlope q a → 0 < unsigned_abs a
strong_positive (pos n) q q_pos h = omega (arith, ints)
strong_positive (negsuc n) q q_pos h = omega arith

-- strong slopes within the variation are so as natural numbers too
strong_even : (a b : ℤ) (q k : ℕ) → 0 < q → IsStrongSlope q a → IsStrongSlope q b → a ≤ℤ (pos k *ℤ b) →
    unsigned_abs a ≤ k * unsigned_abs b
strong_even (pos n) (pos m) q k q_pos h g le = omega (arith, ints)
strong_even (negsuc n) b q k q_pos h g le = absurd (omega (arith, ints))
strong_even (pos n) (negsuc m) q k q_pos h g le = absurd (omega (arith, ints))

-- the slopes of accepted data are usable
pub accepted_usable : (kind : SlopeKind) (d : TrainAndTrack) → HasBands d.train.bands → IsAcceptedKind kind d →
    IsUsable (slopes_of kind d)
unfolding slopes_of
accepted_usable kind d bands accepted = record {
  unit = q_positive d.train.rotating_mass;
  few = omega (arith, counted, bands.few);
  rising = λ i j le lt. uppers_rise (pos 0) d.train.bands i j bands.in_order (omega (arith, ints)) le lt;
  positive = λ band known c. rw (slope_from kind d band c) (strong_positive (slope_at kind d band (pos (cell_from c)))
      (q_of d.train.rotating_mass) (q_positive d.train.rotating_mass) (strong_at band known c));
  even = λ band known c c'. rw (slope_from kind d band c, slope_from kind d band c')
      (subst (λ (n : ℕ). unsigned_abs (slope_at kind d band (pos (cell_from c))) ≤ variation n
      * unsigned_abs (slope_at kind d band (pos (cell_from c')))) (sym counted)
      (strong_even (slope_at kind d band (pos (cell_from c))) (slope_at kind d band (pos (cell_from c')))
      (q_of d.train.rotating_mass) (variation_of d) (q_positive d.train.rotating_mass)
      (strong_at band known c) (strong_at band known c')
      (accepted.even band (within band known) (cell_from c) (cell_from c'))));
}
  where
    counted : bands_of (uppers_of d.train.bands) ≡ length d.train.bands
    counted = bands_counted (pos 0) d.train.bands bands.in_order

    within : (band : ℕ) → band ≤ length (slopes_of kind d).uppers → band < length d.train.bands
    within band known = omega (arith, counted)

    strong_at : (band : ℕ) → band ≤ length (slopes_of kind d).uppers → (c : ℤ) → IsStrongAt kind d band (cell_from c)
    strong_at band known c = accepted.strong band (cell_from c) (within band known)
