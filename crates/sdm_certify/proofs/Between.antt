-- The marks between two knots lead from the one to the other: no cell between two of them has another slope, and each
-- way
-- takes just the energy that is lost on it, or more where it begins at the knot.
use Rattle.std.proofs.Common.{◌≡◌, ℕ, ℤ, zero, suc, pos, neg_ℤ, true, false, List, ◌∷◌, ◌++◌, ◌+◌, ◌*◌, ◌<◌, ◌≤◌, ◌+ℤ◌}
use Rattle.std.proofs.Common.{◌*ℤ◌, ◌≤ℤ◌, ◌<ℤ◌, nat_eq, cond, unsigned_abs, ap, arith, refl, sym, ◌∙◌}
use Rattle.std.proofs.lemmas.Int.{ints, by_lt_z}
use Rattle.std.proofs.lemmas.Bool.{eqb-true}
use Rattle.sdm_num.proofs.Ints.{scales}
use Rattle.sdm_rules.specs.Slopes.{Slopes}
use Rattle.sdm_rules.specs.Curves.{cell_at, cell_start}
use Rattle.sdm_rules.specs.Motion.{HasPart}
use Rattle.sdm_laws.proofs.OneBand.Totals.{total-zero, total_at_most, total_at_least}
use Rattle.sdm_laws.proofs.OneBand.Cells.{cell_low, cell_high, cell_in}
use Rattle.sdm_laws.proofs.OneBand.Energy.{energy-add}
use Rattle.sdm_motion.proofs.SegmentParts.{start_le, start_next}
use Rattle.sdm_rules.specs.declared.certificates.Mark.{Mark}
use Rattle.sdm_rules.specs.Certificates.{IsEnergyIn, IsNext, LeadTo}
use Rattle.sdm_certify.specs.Made.{way_energy, mark_before, changes}

-- ---- cells

-- the cell that ends where another begins has a part before there
part_before : (p c : ℤ) → p <ℤ cell_start 1 c → HasPart 1 (c +ℤ neg_ℤ (pos 1)) p (cell_start 1 c)
part_before p c lt =
    let b = c +ℤ neg_ℤ (pos 1) in
    let is : b +ℤ pos 1 ≡ c = omega (arith, ints) in
    let next = rw is at (start_next 1 b) in
    record { apart = lt; begins = omega (arith, ints, next); ends = omega (arith, ints, next, lt) }

-- a cell with a part before the next border has one before this border, or is the cell between them
part_or : (p c cell : ℤ) → p <ℤ cell_start 1 c → HasPart 1 cell p (cell_start 1 (c +ℤ pos 1)) → (P : Type 0) →
    (HasPart 1 cell p (cell_start 1 c) → P) → (cell ≡ c → P) → P
part_or p c cell lt h P before here =
    by_lt_z (cell_start 1 cell) (cell_start 1 c)
    (λ (less : cell_start 1 cell <ℤ cell_start 1 c). before (record { apart = lt; begins = less; ends = h.ends }))
    (λ (ge : cell_start 1 c ≤ℤ cell_start 1 cell). here (
    let next = start_next 1 c in
    let begins = h.begins in
    let one = cell_in 1 c (cell_start 1 cell) (omega arith) ge (omega (arith, ints, next, begins)) in
    let two = cell_in 1 cell (cell_start 1 cell) (omega arith) (omega (arith, ints)) (omega (arith, ints)) in
    sym two ∙ one))

-- no other cell than that of a place has a part from there to the next border
pub the_cell : (p c cell : ℤ) → cell_start 1 c ≤ℤ p → HasPart 1 cell p (cell_start 1 (c +ℤ pos 1)) → cell ≡ c
the_cell p c cell le h =
    let next = start_next 1 c in
    let next' = start_next 1 cell in
    let begins = h.begins in
    let ends = h.ends in
    by_lt_z cell c
    (λ (less : cell <ℤ c). absurd (let before = start_le 1 (cell +ℤ pos 1) c (omega (arith, ints)) in
    omega (arith, ints)))
    (λ (ge : c ≤ℤ cell). by_lt_z c cell
    (λ (more : c <ℤ cell). absurd (let past = start_le 1 (c +ℤ pos 1) cell (omega (arith, ints)) in
    omega (arith, ints)))
    (λ (le' : cell ≤ℤ c). omega (arith, ints)))

-- ---- energies of ways in one band

module _ (on : Slopes) (band : ℕ) where
  -- a way in two parts
  pub way_split : (p z q : ℤ) → p ≤ℤ z → z ≤ℤ q →
      way_energy on band p q ≡ way_energy on band p z + way_energy on band z q
  way_split p z q le le' =
      let a = unsigned_abs (z +ℤ neg_ℤ p) in
      let b = unsigned_abs (q +ℤ neg_ℤ z) in
      let sum : unsigned_abs (q +ℤ neg_ℤ p) ≡ a + b = omega (arith, ints) in
      let z_is : p +ℤ pos a ≡ z = omega (arith, ints) in
      let both = rw z_is at (energy-add on band 1 p a b) in
      rw sum (omega (arith, both))

  -- where every cell with a part has the slope, the way takes just that
  way_of_slope : (p z : ℤ) (s : ℕ) → p ≤ℤ z → ((cell : ℤ) → HasPart 1 cell p z → on.slope band cell ≡ s) →
      pos (way_energy on band p z) ≡ pos (27 * s) *ℤ z +ℤ neg_ℤ (pos (27 * s) *ℤ p)
  way_of_slope p z s le same =
      let d = unsigned_abs (z +ℤ neg_ℤ p) in
      let z_is : z ≡ p +ℤ pos d = omega (arith, ints) in
      let slope : (k : ℕ) → k < d → on.slope band (cell_at 1 (p +ℤ pos k)) ≡ s = λ k lt. same _ (record {
        apart = omega (arith, ints);
        begins = omega (arith, ints, cell_low 1 (p +ℤ pos k) (omega arith));
        ends = omega (arith, ints, cell_high 1 (p +ℤ pos k) (omega arith));
      }) in
      let most = total_at_most (λ k. on.slope band (cell_at 1 (p +ℤ pos k))) s d (λ k lt. let e = slope k lt in
      omega arith) in
      let least = total_at_least (λ k. on.slope band (cell_at 1 (p +ℤ pos k))) s d (λ k lt. let e = slope k lt in
      omega arith) in
      let scaled = simp scales at (ap (λ (x : ℤ). pos (27 * s) *ℤ x) z_is) in
      omega (arith, ints, most, least, scaled)

-- ---- from a mark on, over the cells before the knot `y`

-- the first cell that begins at or past a place
pub record IsFirstPast (c p : ℤ) : Type 0 where
  pub past : p ≤ℤ cell_start 1 c
  pub before : (k : ℤ) → k <ℤ c → cell_start 1 k <ℤ p

-- the mark's energy is at most that of the knot and the way to it, and at least so for each later place
pub record IsFitting (on : Slopes) (band : ℕ) (y x : Mark) : Type 0 where
  pub most : x.energy ≤ y.energy + way_energy on band x.place y.place
  pub least : (z : ℤ) → x.place <ℤ z → z ≤ℤ y.place → y.energy + way_energy on band z y.place ≤ x.energy

module _ (on : Slopes) (band : ℕ) (svl : ℤ) (y : Mark) (rest : List Mark) (in_y : IsEnergyIn on band y.energy)
    (lead : LeadTo on svl y rest) (e : ℤ) (end : IsFirstPast e y.place) where
  -- from a fitting mark to a later one with just its energy, over one slope
  next_of : (x z : Mark) (s : ℕ) → x.place <ℤ z.place → z.place ≤ℤ y.place →
      z.energy ≡ y.energy + way_energy on band z.place y.place →
      ((cell : ℤ) → HasPart 1 cell x.place z.place → on.slope band cell ≡ s) → IsFitting on band y x →
      IsEnergyIn on band x.energy → IsEnergyIn on band z.energy → IsNext on x z
  next_of x z s lt le z_is same fits in_x in_z =
      let split = way_split on band x.place z.place y.place (omega (arith, ints)) le in
      let way = way_of_slope on band x.place z.place s (omega (arith, ints)) same in
      let most = fits.most in
      let least = fits.least z.place lt le in
      record {
        band = band;
        slope = s;
        forward = omega (arith, ints);
        falls = omega arith;
        from_band = in_x;
        to_band = in_z;
        one_slope = same;
        enough = omega (arith, ints, way, split, most, least);
      }

  -- a mark with just the energy of the way fits
  fits_just : (x : Mark) → x.energy ≡ y.energy + way_energy on band x.place y.place → IsFitting on band y x
  fits_just x is = record {
    most = omega arith;
    least = λ z lt le. (let split = way_split on band x.place z y.place (omega (arith, ints)) le in omega arith);
  }

  -- no way takes no energy
  no_way : y.energy ≡ y.energy + way_energy on band y.place y.place
  no_way =
      let none : unsigned_abs (y.place +ℤ neg_ℤ y.place) ≡ 0 = omega (arith, ints) in
      let nothing = total-zero (λ k. on.slope band (cell_at 1 (y.place +ℤ pos k))) in
      rw none (omega (arith, nothing))

  -- an energy between two of the band is in it
  in_between : (x z : Mark) → z.energy ≤ x.energy → y.energy ≤ z.energy → IsEnergyIn on band x.energy →
      IsEnergyIn on band z.energy
  in_between x z le ge in_x =
      let low = in_y.above in
      record { known = in_x.known; above = omega arith; below = λ lt. (let high = in_x.below lt in omega arith) }

  -- from a fitting mark the marks of the next `n` cells, and then the knot, lead to the place
  pub from_cell : (n : ℕ) (c : ℤ) (x : Mark) (s : ℕ) → c +ℤ pos n ≡ e → x.place <ℤ cell_start 1 c → x.place <ℤ y.place →
      ((cell : ℤ) → HasPart 1 cell x.place (cell_start 1 c) → on.slope band cell ≡ s) → IsFitting on band y x →
      IsEnergyIn on band x.energy →
      LeadTo on svl x (changes on band y c n ++ (y ∷ rest))
  from_cell zero c x s at lt before same fits in_x =
      let c_is : e ≡ c = omega (arith, ints) in
      let past = rw c_is at end.past in
      let same_y : (cell : ℤ) → HasPart 1 cell x.place y.place →
      on.slope band cell ≡ s = λ cell part. same cell
      (record { apart = lt; begins = omega (arith, ints, part.begins); ends = part.ends }) in
      (next_of x y s before (omega (arith, ints)) no_way same_y fits in_x in_y, lead)
  from_cell (suc n) c x s at lt before same fits in_x =
      let z = mark_before on band y c in
      let inside : cell_start 1 c <ℤ y.place = end.before c (omega (arith, ints)) in
      let next_at : (c +ℤ pos 1) +ℤ pos n ≡ e = omega (arith, ints) in
      let further : cell_start 1 c <ℤ cell_start 1 (c +ℤ pos 1) = (let k = start_next 1 c in omega (arith, ints, k)) in
      let slope_is : on.slope band (c +ℤ neg_ℤ (pos 1)) ≡ s = same _ (part_before x.place c lt) in
      let least = fits.least (cell_start 1 c) lt (omega (arith, ints)) in
      let in_z : IsEnergyIn on band z.energy = in_between x z least (omega arith) in_x in
      let drop : on.slope band c ≡ s → LeadTo on svl x (changes on band y (c +ℤ pos 1) n ++ (y ∷ rest)) = λ same_c.
      from_cell n (c +ℤ pos 1) x s next_at (omega (arith, ints)) before
      (λ cell part. part_or x.place c cell lt part _ (same cell) (λ is. ap (on.slope band) is ∙ same_c)) fits in_x in
      let keep : LeadTo on svl z (changes on band y (c +ℤ pos 1) n ++ (y ∷ rest)) =
      from_cell n (c +ℤ pos 1) z (on.slope band c) next_at further inside
      (λ cell part. ap (on.slope band) (the_cell (cell_start 1 c) c cell (omega (arith, ints)) part))
      (fits_just z refl) in_z in
      elim (nat_eq (on.slope band (c +ℤ neg_ℤ (pos 1))) (on.slope band c)) as
      (λ t. nat_eq (on.slope band (c +ℤ neg_ℤ (pos 1))) (on.slope band c) ≡ t →
      LeadTo on svl x
      (cond t (changes on band y (c +ℤ pos 1) n) (z ∷ changes on band y (c +ℤ pos 1) n) ++ (y ∷ rest))) [
        | true ↦ λ is. drop (sym (eqb-true _ _ is) ∙ slope_is)
        | false ↦ λ is. (next_of x z s lt (omega (arith, ints)) refl same fits in_x in_z, keep)
      ] refl
