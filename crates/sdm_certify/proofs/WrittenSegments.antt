-- The segments that are written, from one on: the next is among them or not.
use Rattle.std.proofs.Common.{◌≡◌, ℕ, ℤ, suc, ◌+◌, ◌-◌, ◌<◌, ◌≤◌, true, false, List, [], ◌∷◌, ◌++◌, map, length, get_or}
use Rattle.std.proofs.Common.{ap, refl, ◌∙◌}
use Rattle.std.proofs.Common.{length-append, arith}
use Rattle.std.proofs.Math.Seq.{get_or-append_right}
use Rattle.std.proofs.lemmas.List.{get_or-map, length-map}
use Rattle.sdm_rules.specs.Slopes.{SlopeMap}
use Rattle.sdm_certify.specs.WrittenLines.{is_written, written_from}

module _ (m : SlopeMap) (i left more : ℕ) (is : left ≡ suc more) where
  -- the next one is written
  pub one_written : is_written m i ≡ true → written_from m i left ≡ i ∷ written_from m (suc i) more
  one_written so = rw (is, so) refl

  -- the next one is not
  pub none_written : is_written m i ≡ false → written_from m i left ≡ written_from m (suc i) more
  none_written so = rw (is, so) refl

-- what stands past the first of a list
pub past_first : (x : ℕ) (xs : List ℕ) (n k : ℕ) → n ≡ suc k → get_or (x ∷ xs) n 0 ≡ get_or xs k 0
past_first x xs n k is = rw is refl

-- what stands past a first line and some more
pub past_lines : (head : List ℕ) (more : List (List ℕ)) (f : ℤ → List ℕ) (cell : ℕ → ℤ) (xs : List ℕ) (i before : ℕ) →
    before ≡ suc (length more) → before ≤ i → i < length (head ∷ more ++ map f (map cell xs)) →
    get_or (head ∷ more ++ map f (map cell xs)) i [] ≡ f (cell (get_or xs (i - before) 0))
past_lines head more f cell xs i before is past known =
    let count : length (more ++ map f (map cell xs)) ≡ length more + length xs =
    omega (arith, length-append more (map f (map cell xs)), length-map (map cell xs) f, length-map xs cell) in
    let here : i - before < length xs = omega (arith, known, count, is, past) in
    rw is (get_or-append_right (head ∷ more) (map f (map cell xs)) i [] (omega (arith, is, past))
    ∙ get_or-map f (map cell xs) (i - length (head ∷ more)) (cell 0) [] (omega (arith, is, here, length-map xs cell))
    ∙ ap f (get_or-map cell xs (i - length (head ∷ more)) 0 (cell 0) (omega (arith, is, here))))
