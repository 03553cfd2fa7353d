-- Whether one of a list passes a test: where one more comes, one goes, or the test is weaker; and such a one is found.
use Rattle.std.proofs.Common.{◌≡◌, ◌⊎◌, inl, inr, ℕ, zero, suc, List, [], ◌∷◌, ◌++◌, Some, None, Bool, true, false, ◌||◌}
use Rattle.std.proofs.Common.{cond, length, get_or, ◌+◌, ◌<◌, refl, sym, ap, ◌∙◌, arith, is_some, position}
use Rattle.std.specs.List.{list_any, position_from}
use Rattle.std.proofs.lemmas.Bool.{true≢false}
use Rattle.std.proofs.lemmas.Iterator.Adapters.{position_from-zero}
use Rattle.sdm_speed.proofs.FallStarts.{either_first, either_later}

either : (a b c : Bool) → (b ≡ true → c ≡ true) → (a || b) ≡ true → (a || c) ≡ true
either true b c rest on = refl
either false b c rest on = rest on

other : (a b : Bool) → a ≡ false → (a || b) ≡ true → b ≡ true
other true b off on = absurd (true≢false off)
other false b off on = on

-- one of two tests is passed
pub either_of : (a b : Bool) → (a || b) ≡ true → (a ≡ true) ⊎ (b ≡ true)
either_of true b h = inl refl
either_of false b h = inr h

module _ {A : Type 0} (P : A → Bool) where
  pub any_more : (xs : List A) (y : A) → list_any P xs ≡ true → list_any P (xs ++ y ∷ []) ≡ true
  any_more [] y on = absurd (true≢false (sym on))
  any_more (x ∷ xs) y on = either (P x) (list_any P xs) (list_any P (xs ++ y ∷ [])) (any_more xs y) on

  pub any_new : (xs : List A) (y : A) → P y ≡ true → list_any P (xs ++ y ∷ []) ≡ true
  any_new [] y here = either_first (P y) false here
  any_new (x ∷ xs) y here = either_later (P x) (list_any P (xs ++ y ∷ [])) (any_new xs y here)

  -- where one passes it stands at an index
  pub record IsPassed (xs : List A) : Type 0 where
    pub index : ℕ
    pub known : index < length xs
    pub is : (d : A) → P (get_or xs index d) ≡ true

  pub any_passed : (xs : List A) → list_any P xs ≡ true → IsPassed xs
  any_passed [] on = absurd (true≢false (sym on))
  any_passed (x ∷ xs) on = elim (either_of (P x) (list_any P xs) on) [
    | inl here ↦ record { index = 0; known = omega arith; is = λ d. here }
    | inr rest ↦ (let later = any_passed xs rest in let known = later.known in
        record { index = suc later.index; known = omega (arith, known); is = later.is })
  ]

  pub any_at : (xs : List A) (k : ℕ) (d : A) → k < length xs → P (get_or xs k d) ≡ true → list_any P xs ≡ true
  any_at [] k d known on = absurd (omega (arith, known))
  any_at (x ∷ xs) zero d known on = either_first (P x) (list_any P xs) on
  any_at (x ∷ xs) (suc k) d known on =
      either_later (P x) (list_any P xs) (any_at xs k d (omega (arith, known)) on)

  weaker_first : (Q : A → Bool) (x : A) (xs : List A) (b : Bool) → P x ≡ b → (P x ≡ true → Q x ≡ true) →
      (list_any P xs ≡ true → list_any Q xs ≡ true) → (b || list_any P xs) ≡ true → list_any Q (x ∷ xs) ≡ true
  weaker_first Q x xs true is weaker rest h = either_first (Q x) (list_any Q xs) (weaker is)
  weaker_first Q x xs false is weaker rest h = either_later (Q x) (list_any Q xs) (rest h)

  pub any_weaker : (Q : A → Bool) → ((x : A) → P x ≡ true → Q x ≡ true) → (xs : List A) → list_any P xs ≡ true →
      list_any Q xs ≡ true
  any_weaker Q weaker [] on = absurd (true≢false (sym on))
  any_weaker Q weaker (x ∷ xs) on =
      weaker_first Q x xs (P x) refl (weaker x) (any_weaker Q weaker xs) on

found_from : {A : Type 0} (P : A → Bool) (xs : List A) (i : ℕ) → is_some (position_from P i xs) ≡ list_any P xs
found_from P [] i = refl
found_from P (x ∷ xs) i =
    elim (P x) as (λ b. is_some (cond b (Some i) (position_from P (i + 1) xs)) ≡ (b || list_any P xs))
    [ true ↦ refl | false ↦ found_from P xs (i + 1) ]

-- one is found where there is one
pub one_found : {A : Type 0} (P : A → Bool) (xs : List A) → list_any P xs ≡ true → position P xs ≡ None → ⊥
one_found P xs on none = true≢false
    (sym on ∙ sym (found_from P xs 0) ∙ ap is_some (sym (position_from-zero P xs)) ∙ ap is_some none)
