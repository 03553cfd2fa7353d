-- The lowest value over consecutive cells is at most each value there and is one of them; nothing else is both.
use Rattle.std.proofs.Common.{◌≡◌, ℕ, zero, suc, ℤ, pos, ◌+ℤ◌, ◌≤ℤ◌, ◌<ℤ◌, arith, refl, ◌∙◌}
use Rattle.std.specs.Int.{int_min}
use Rattle.std.proofs.lemmas.Int.{ints, clamps, by_lt_z}
use Rattle.sdm_rules.specs.Cells.{lowest}

-- the value is at most each value of the cells from `first` to `last`, and some cell there has it
pub record IsLowest (f : ℤ → ℤ) (first last v : ℤ) : Type 0 where
  pub none_below : (c : ℤ) → first ≤ℤ c → c ≤ℤ last → v ≤ℤ f c
  pub at : ℤ
  pub from_first : first ≤ℤ at
  pub to_last : at ≤ℤ last
  pub reached : f at ≡ v

module _ (f : ℤ → ℤ) where
  -- a value is that of the first cell, or it is at most it and the lowest of the others
  none_under : (first last v w : ℤ) → IsLowest f (first +ℤ pos 1) last w → v ≤ℤ f first → v ≤ℤ w → (c : ℤ) →
      first ≤ℤ c → c ≤ℤ last → v ≤ℤ f c
  none_under first last v w h below below_others c a b = by_lt_z first c
      (λ (l : first <ℤ c). (let o = h.none_below c (omega (arith, ints)) b in omega (arith, ints)))
      (λ (l : c ≤ℤ first). (let is : c ≡ first = omega (arith, ints) in rw is below))

  -- the lowest value over consecutive cells is at most each of theirs, and one of them
  lowest_is_lowest : (first last : ℤ) (n : ℕ) → last ≡ first +ℤ pos n → IsLowest f first last (lowest int_min f first n)
  lowest_is_lowest first last zero e = record {
    none_below = λ c a b. (let is : c ≡ first = omega (arith, ints) in rw is (omega (arith, ints)));
    at = first;
    from_first = omega (arith, ints);
    to_last = omega (arith, ints);
    reached = refl;
  }
  lowest_is_lowest first last (suc n) e =
      let w = lowest int_min f (first +ℤ pos 1) n in
      let h = lowest_is_lowest (first +ℤ pos 1) last n (omega (arith, ints)) in
      let from = h.from_first in
      let to = h.to_last in
      let none_below = none_under first last (int_min (f first) w) w h (omega (arith, ints, clamps))
      (omega (arith, ints, clamps)) in
      by_lt_z (f first) w
      (λ (l : f first <ℤ w). record {
        none_below = none_below;
        at = first;
        from_first = omega (arith, ints);
        to_last = omega (arith, ints);
        reached = omega (arith, ints, clamps);
      })
      (λ (l : w ≤ℤ f first). record {
        none_below = none_below;
        at = h.at;
        from_first = omega (arith, ints);
        to_last = to;
        reached = h.reached ∙ omega (arith, ints, clamps);
      })

  -- so the value that is at most each and is one of them is the lowest
  pub lowest_is : (first last : ℤ) (n : ℕ) (v : ℤ) → last ≡ first +ℤ pos n → IsLowest f first last v →
      lowest int_min f first n ≡ v
  lowest_is first last n v e h =
      let l = lowest_is_lowest first last n e in
      let below = rw h.reached at (l.none_below h.at h.from_first h.to_last) in
      let above = rw l.reached at (h.none_below l.at l.from_first l.to_last) in
      omega (arith, ints)
