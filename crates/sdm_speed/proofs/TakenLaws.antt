-- The restrictions of another profile, one after the other: each is new among those before it, and has room.
use Rattle.std.proofs.Common.{◌≡◌, ℕ, zero, suc, List, [], ◌∷◌, length, get_or, take, map, Option, Some, None}
use Rattle.std.proofs.Common.{false, is_some, ◌+◌, ◌<◌, refl, sym, ap, ◌∙◌, arith, rules}
use Rattle.std.specs.Prelude.{Result, Ok, Err, IfErr, IsOk}
use Rattle.std.specs.Ordering.{nat_cmp, eq_by_cmp}
use Rattle.std.specs.FinMap as finite
use Rattle.std.proofs.lemmas.Bool.Decides.{nat_tests}
use Rattle.std.proofs.lemmas.List.{take_more}
use Rattle.sdm_rules.specs.declared.restrictions.Restriction.{Restriction}
use Rattle.sdm_speed.specs.Held.{AreDistinct, by_identity, keyed}
use Rattle.sdm_speed.proofs.HeldLaws.{get_is, inserted, missed_first, missed_rest}

-- ---- the first of distinct restrictions

tie_other_way : (a b : ℕ) → eq_by_cmp nat_cmp a b ≡ false → eq_by_cmp nat_cmp b a ≡ false
tie_other_way a b e = grind (arith, nat_tests)

-- an identity that isn't found in a list isn't that of any in it
apart_at : (q : ℕ) (rs : List Restriction) (i : ℕ) (d : Restriction) → i < length rs →
    finite.find nat_cmp q (map keyed rs) ≡ None → eq_by_cmp nat_cmp q (get_or rs i d).id ≡ false
apart_at q [] i d known missing = absurd (omega arith)
apart_at q (x ∷ xs) zero d known missing = missed_first q x xs missing
apart_at q (x ∷ xs) (suc i) d known missing = apart_at q xs i d (omega arith) (missed_rest q x xs missing)

-- nor in its first ones
missing_take : (q : ℕ) (rs : List Restriction) (i : ℕ) → finite.find nat_cmp q (map keyed rs) ≡ None →
    finite.find nat_cmp q (map keyed (take i rs)) ≡ None
missing_take q [] zero missing = refl
missing_take q [] (suc i) missing = refl
missing_take q (x ∷ xs) zero missing = refl
missing_take q (x ∷ xs) (suc i) missing =
    rw (missed_first q x xs missing) (missing_take q xs i (missed_rest q x xs missing))

pub distinct_take : (rs : List Restriction) (i : ℕ) → AreDistinct rs → AreDistinct (take i rs)
distinct_take [] zero h = tt
distinct_take [] (suc i) h = tt
distinct_take (x ∷ xs) zero h = tt
distinct_take (x ∷ xs) (suc i) h = (missing_take x.id xs i h.0, distinct_take xs i h.1)

-- the next one is none of the first ones
pub next_missing : (rs : List Restriction) (i : ℕ) (d : Restriction) → i < length rs → AreDistinct rs →
    finite.find nat_cmp (get_or rs i d).id (map keyed (take i rs)) ≡ None
next_missing [] i d known h = absurd (omega arith)
next_missing (x ∷ xs) zero d known h = refl
next_missing (x ∷ xs) (suc i) d known h =
    rw (tie_other_way x.id (get_or xs i d).id (apart_at x.id xs i d (omega arith) h.0))
    (next_missing xs i d (omega arith) h.1)

-- so its identity is not in use
pub not_contained : (rs : List Restriction) (id : ℕ) → finite.find nat_cmp id (map keyed rs) ≡ None →
    finite.contains_key (by_identity rs) id ≡ false
not_contained rs id missing = ap is_some (get_is rs id ∙ missing)

-- so the map of the first ones gets one more
pub one_taken : (rs : List Restriction) (i : ℕ) (d : Restriction) → i < length rs → AreDistinct rs →
    finite.insert (by_identity (take i rs)) (get_or rs i d).id (get_or rs i d) ≡ by_identity (take (i + 1) rs)
one_taken rs i d known h =
    sym (inserted (take i rs) (get_or rs i d) (next_missing rs i d known h))
    ∙ ap by_identity (sym (take_more rs i d known))

-- ---- no refusal

pub ok_where_none : {T F : Type 0} (o : Option F) (r : Result T F) → o ≡ None → IfErr r (λ fault. o ≡ Some fault) →
    IsOk r
ok_where_none o (Ok x) none refused = search rules
ok_where_none o (Err fault) none refused = absurd (apart (sym none ∙ refused))
  where
    apart : {F : Type 0} {fault : F} → ◌≡◌ {A = Option F} None (Some fault) → ⊥
    apart e = cc
