-- What stands at the falls of a profile past a cell and up to another gives the falls between them.
use Rattle.std.proofs.Common.{◌≡◌, ℕ, zero, suc, ℤ, List, [], ◌∷◌, length, get_or, take, map, ◌<◌, ◌≤◌, ◌≤ℤ◌, ◌<ℤ◌, ap}
use Rattle.std.proofs.Common.{◌∙◌, arith}
use Rattle.std.proofs.lemmas.Int.{ints}
use Rattle.sdm_rules.specs.declared.targets.Fall.{Fall}
use Rattle.sdm_rules.specs.declared.targets.Target.{Target}
use Rattle.sdm_speed.specs.Falls.{AreAtFalls}
use Rattle.sdm_targets.specs.Lists.{falls_past, target_at}
use Rattle.sdm_targets.proofs.FallLaws.{none_left, next_first}

module _ {A : Type 0} (fall : A → Fall) (p : ℤ → ℕ) where
  -- where the first `j` lie up to the end and the others past it, the first ones give the falls up to the end
  pub falls_up_to : (after end : ℤ) (xs : List A) (j : ℕ) → ((k : ℕ) (d : A) → k < j → k < length xs →
      (fall (get_or xs k d)).cell ≤ℤ end) →
      ((k : ℕ) (d : A) → j ≤ k → k < length xs → end <ℤ (fall (get_or xs k d)).cell) →
      AreAtFalls fall p after xs → falls_past p after end ≡ map (λ x. target_at (fall x)) (take j xs)
  falls_up_to after end [] zero before from h = none_left p after end (λ c a l. h c a)
  falls_up_to after end [] (suc j) before from h = none_left p after end (λ c a l. h c a)
  falls_up_to after end (x ∷ xs) zero before from h = none_left p after end
      (λ c a l. h.0.first c a (let past = from 0 x (omega arith) (omega arith) in omega (arith, ints)))
  falls_up_to after end (x ∷ xs) (suc j) before from h =
      next_first p after end (fall x) h.0 (before 0 x (omega arith) (omega arith))
      ∙ ap (λ (left : List Target). target_at (fall x) ∷ left)
      (falls_up_to (fall x).cell end xs j (λ k d l m. before (suc k) d (omega arith) (omega arith))
      (λ k d l m. from (suc k) d (omega arith) (omega arith)) h.1)
