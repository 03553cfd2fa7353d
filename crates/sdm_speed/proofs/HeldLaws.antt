-- A list of restrictions of distinct identities stands for a map by identity: one more at its end is an insertion, one
-- less a removal, and the lowest limit of their zones is the same in the order of the list and in that of the map.
use Rattle.std.proofs.Common.{◌≡◌, ◌≢◌, ℕ, zero, suc, ℤ, List, [], ◌∷◌, ◌++◌, length, get_or, take, drop, All, map}
use Rattle.std.proofs.Common.{Option, Some, None, is_some, Bool, true, false, cond, position, ◌==◌, ◌+◌, ◌<◌, refl}
use Rattle.std.proofs.Common.{sym, ap, ◌∙◌, arith}
use Rattle.std.specs.List.{remove, position_from}
use Rattle.std.specs.Ordering.{nat_cmp, eq_by_cmp, is_eq}
use Rattle.std.specs.Cmp.{nat_cmp_total}
use Rattle.std.specs.FinMap as finite
use Rattle.std.specs.FinMap.Entries.{by_order, put, find-append}
use Rattle.std.specs.declared.cmp.Ordering.{Ordering}
use Rattle.std.specs.declared.cmp.Ordering.TheVariants.{Less, Equal, Greater}
use Rattle.std.proofs.lemmas.Bool.Decides.{nat_tests}
use Rattle.std.proofs.lemmas.Iterator.Adapters.{position_from-zero}
use Rattle.std.proofs.lemmas.List.{map-append, nil_from_length}
use Rattle.std.proofs.lemmas.List.Elements.{All-append, All-take, All-drop}
use Rattle.std.proofs.lemmas.List.Quantifiers.{position-Some}
use Rattle.sdm_rules.specs.declared.restrictions.Restriction.{Restriction}
use Rattle.sdm_rules.specs.Profile.{capped, lowest_limit, zone_of}
use Rattle.sdm_speed.specs.Held.{has_id, keyed, by_identity, AreDistinct}
use Rattle.sdm_speed.proofs.ZoneLaws.{capped_in_any_order}

-- ---- tests of identities

-- two keys tie where they are the same number
tie_is : (a b : ℕ) → eq_by_cmp nat_cmp a b ≡ (b == a)
tie_is a b = grind (arith, nat_tests)

tie_both_ways : (a b : ℕ) → eq_by_cmp nat_cmp a b ≡ eq_by_cmp nat_cmp b a
tie_both_ways a b = grind (arith, nat_tests)

-- keys that tie are the same
pub tied : (a b : ℕ) → eq_by_cmp nat_cmp a b ≡ true → a ≡ b
tied a b t = grind (arith, nat_tests)

pub tie_self : (a : ℕ) → eq_by_cmp nat_cmp a a ≡ true
tie_self a = grind (arith, nat_tests)

same_id : {a b : ℕ} → (a == b) ≡ true → a ≡ b
same_id {a} {b} t = grind (arith, nat_tests)

not_here : {a b : ℕ} → (a == b) ≡ false → a ≢ b
not_here {a} {b} t e = grind (arith, nat_tests)

-- stands for a restriction that there is not
abbrev pub none : Restriction
none = record { id = 0; start = 0; end = 0; speed = 0; delayed = false }

-- ---- the map

module _ (q : ℕ) (r : Restriction) (rs : List Restriction)
    (missing : finite.find nat_cmp q (map keyed (r ∷ rs)) ≡ None) where
  -- an identity that isn't found is not the first one's, nor found in the rest
  missed : (b : Bool) → cond b (Some r) (finite.find nat_cmp q (map keyed rs)) ≡ None →
      (b ≡ false) × (finite.find nat_cmp q (map keyed rs) ≡ None)
  missed true e = absurd cc
  missed false e = (refl, e)

  pub missed_first : eq_by_cmp nat_cmp q r.id ≡ false
  missed_first = (missed (eq_by_cmp nat_cmp q r.id) missing).0

  pub missed_rest : finite.find nat_cmp q (map keyed rs) ≡ None
  missed_rest = (missed (eq_by_cmp nat_cmp q r.id) missing).1

-- the map finds what the list does
pub get_is : (rs : List Restriction) (q : ℕ) → finite.get (by_identity rs) q ≡ finite.find nat_cmp q (map keyed rs)
get_is rs q = finite.get-from_entries nat_cmp_total (map keyed rs) q

-- as many keys as restrictions
pub len_is : (rs : List Restriction) → AreDistinct rs → finite.len (by_identity rs) ≡ length rs
len_is [] h = finite.len-empty nat_cmp Restriction
len_is (r ∷ rs) h = finite.len-insert nat_cmp_total (by_identity rs) r.id r
    ∙ rw (get_is rs r.id, h.0) (let rest = len_is rs h.1 in omega arith)

-- an identity is in the map where it has an index in the list
found_from : (id : ℕ) (rs : List Restriction) (i : ℕ) →
    is_some (finite.find nat_cmp id (map keyed rs)) ≡ is_some (position_from (has_id id) i rs)
found_from id [] i = refl
found_from id (x ∷ xs) i =
    rw (tie_is id x.id) (elim (x.id == id) as (λ b. is_some (cond b (Some x) (finite.find nat_cmp id (map keyed xs)))
    ≡ is_some (cond b (Some i) (position_from (has_id id) (i + 1) xs)))
    [ true ↦ refl | false ↦ found_from id xs (i + 1) ])

-- so it is of the map itself
pub contains_is : (rs : List Restriction) (id : ℕ) →
    finite.contains_key (by_identity rs) id ≡ is_some (position (has_id id) rs)
contains_is rs id = rw (get_is rs id) (found_from id rs 0 ∙ ap is_some (sym (position_from-zero (has_id id) rs)))

pub no_value : (o : Option Restriction) → is_some o ≡ false → o ≡ None
no_value None e = refl
no_value (Some r) e = absurd cc

-- an identity that isn't in the map isn't found in the list
pub missing_of : (rs : List Restriction) (id : ℕ) → finite.contains_key (by_identity rs) id ≡ false →
    finite.find nat_cmp id (map keyed rs) ≡ None
missing_of rs id new = sym (get_is rs id) ∙ no_value (finite.get (by_identity rs) id) new

-- one restriction more at the end
missing_more : (q : ℕ) (rs : List Restriction) (r : Restriction) → finite.find nat_cmp r.id (map keyed rs) ≡ None →
    eq_by_cmp nat_cmp q r.id ≡ false → finite.find nat_cmp q (map keyed rs) ≡ None →
    finite.find nat_cmp q (map keyed (rs ++ r ∷ [])) ≡ None
missing_more q rs r rest apart missing =
    rw (map-append keyed rs (r ∷ []), find-append nat_cmp nat_cmp_total (map keyed rs) r.id r q rest, apart) missing

-- with a new identity they stay distinct
pub distinct_more : (rs : List Restriction) (r : Restriction) → AreDistinct rs →
    finite.find nat_cmp r.id (map keyed rs) ≡ None → AreDistinct (rs ++ r ∷ [])
distinct_more [] r h missing = (refl, tt)
distinct_more (x ∷ xs) r h missing =
    let apart : eq_by_cmp nat_cmp x.id r.id ≡ false = tie_both_ways x.id r.id ∙ missed_first r.id x xs missing in
    let rest = missed_rest r.id x xs missing in
    (missing_more x.id xs r rest apart h.0, distinct_more xs r h.1 rest)

-- one more at the end of the list is put into the map
pub inserted : (rs : List Restriction) (r : Restriction) → finite.find nat_cmp r.id (map keyed rs) ≡ None →
    by_identity (rs ++ r ∷ []) ≡ finite.insert (by_identity rs) r.id r
inserted rs r missing = rw (map-append keyed rs (r ∷ []))
    (finite.from_entries_push nat_cmp_total finite.nat_cmp-IsAntisymmetric (map keyed rs) r.id r missing)

-- a restriction is found by its identity
found_at : (rs : List Restriction) (id i : ℕ) (d : Restriction) → i < length rs → (get_or rs i d).id ≡ id →
    ((k : ℕ) → k < i → (get_or rs k d).id ≢ id) → finite.find nat_cmp id (map keyed rs) ≡ Some (get_or rs i d)
found_at [] id i d known here before = absurd (omega arith)
found_at (x ∷ xs) id zero d known here before = rw (← here, tie_self x.id) refl
found_at (x ∷ xs) id (suc i) d known here before =
    first (eq_by_cmp nat_cmp id x.id) (λ t. before 0 (omega arith) (sym (tied id x.id t)))
    (found_at xs id i d (omega arith) here (λ k l. before (suc k) (omega arith)))
  where
    first : (b : Bool) → (b ≡ true → ⊥) → finite.find nat_cmp id (map keyed xs) ≡ Some (get_or xs i d) →
        cond b (Some x) (finite.find nat_cmp id (map keyed xs)) ≡ Some (get_or xs i d)
    first true apart rest = absurd (apart refl)
    first false apart rest = rest

-- what stands at the index of an identity is what the map has
pub get_at : (rs : List Restriction) (id i : ℕ) (d : Restriction) → position (has_id id) rs ≡ Some i →
    (i < length rs) × (finite.get (by_identity rs) id ≡ Some (get_or rs i d))
get_at rs id i d at_index =
    let at = position-Some (has_id id) rs i d at_index in
    (at.0, get_is rs id ∙ found_at rs id i d at.0 (same_id at.1) (λ k l e. not_here (at.2 k l) e))

-- one restriction less
found_less : (rs : List Restriction) (id i : ℕ) (d : Restriction) (q : ℕ) → AreDistinct rs → i < length rs →
    (get_or rs i d).id ≡ id → ((k : ℕ) → k < i → (get_or rs k d).id ≢ id) →
    finite.find nat_cmp q (map keyed (remove rs i))
    ≡ cond (eq_by_cmp nat_cmp q id) None (finite.find nat_cmp q (map keyed rs))
found_less [] id i d q h known here before = absurd (omega arith)
found_less (x ∷ xs) id zero d q h known here before = taken_out (eq_by_cmp nat_cmp q x.id) refl
  where
    taken_out : (b : Bool) → eq_by_cmp nat_cmp q x.id ≡ b → finite.find nat_cmp q (map keyed xs)
        ≡ cond (eq_by_cmp nat_cmp q id) None (cond b (Some x) (finite.find nat_cmp q (map keyed xs)))
    taken_out true t = (let e : q ≡ x.id = tied q x.id t in rw (← here, t, e) h.0)
    taken_out false t = rw (← here, t) refl
found_less (x ∷ xs) id (suc i) d q h known here before =
    rw (found_less xs id i d q h.1 (omega arith) here (λ k l. before (suc k) (omega arith)))
    (kept (eq_by_cmp nat_cmp q x.id) (eq_by_cmp nat_cmp q id)
    (λ s t. before 0 (omega arith) (sym (tied q x.id s) ∙ tied q id t)))
  where
    kept : (a b : Bool) → (a ≡ true → b ≡ true → ⊥) → cond a (Some x)
        (cond b None (finite.find nat_cmp q (map keyed xs)))
        ≡ cond b None (cond a (Some x) (finite.find nat_cmp q (map keyed xs)))
    kept true true apart = absurd (apart refl refl)
    kept true false apart = refl
    kept false b apart = refl

-- one less in the list is taken out of the map
pub removed : (rs : List Restriction) (id i : ℕ) → AreDistinct rs → position (has_id id) rs ≡ Some i →
    by_identity (remove rs i) ≡ finite.remove (by_identity rs) id
removed rs id i h at_index =
    let at = position-Some (has_id id) rs i none at_index in
    finite.same_map nat_cmp_total finite.nat_cmp-IsAntisymmetric _ _
    (λ q. get_is (remove rs i) q ∙ found_less rs id i none q h at.0 (same_id at.1) (λ k l e. not_here (at.2 k l) e)
    ∙ sym (finite.get-remove nat_cmp_total (by_identity rs) id q
    ∙ ap (λ o. cond (eq_by_cmp nat_cmp q id) None o) (get_is rs q)))

-- an identity that isn't found isn't found in what is left
none_less : (rs : List Restriction) (q i : ℕ) → finite.find nat_cmp q (map keyed rs) ≡ None →
    finite.find nat_cmp q (map keyed (remove rs i)) ≡ None
none_less [] q zero missing = missing
none_less [] q (suc i) missing = missing
none_less (x ∷ xs) q zero missing = missed_rest q x xs missing
none_less (x ∷ xs) q (suc i) missing = rw (missed_first q x xs missing) (none_less xs q i (missed_rest q x xs missing))

-- what is left is distinct
pub distinct_less : (rs : List Restriction) (i : ℕ) → AreDistinct rs → AreDistinct (remove rs i)
distinct_less [] zero h = tt
distinct_less [] (suc i) h = tt
distinct_less (x ∷ xs) zero h = h.1
distinct_less (x ∷ xs) (suc i) h = (none_less xs x.id i h.0, distinct_less xs i h.1)

-- and one less of which each is as it should be
pub All-remove : {A : Type 0} (P : A → Type 0) (xs : List A) (i : ℕ) → All P xs → All P (remove xs i)
All-remove P xs i each = All-append P (take i xs) (drop (suc i) xs) (All-take P i xs each) (All-drop P (suc i) xs each)

-- ---- the lowest limit

-- of the entries of a map, in their order
abbrev lowest_of : ℕ → ℤ → ℤ → List (ℕ × Restriction) → ℕ
lowest_of top cell length_cm es = lowest_limit top cell (map (zone_of length_cm) (map (λ e. e.1) es))

module _ (top : ℕ) (cell length_cm : ℤ) where
  -- an entry that is put among the others counts as if it stood before them
  put_at : (o : Ordering) (k : ℕ) (r : Restriction) (e : ℕ × Restriction) (es : List (ℕ × Restriction)) →
      cond (is_eq o) (Some e.1) (finite.find nat_cmp k es) ≡ None →
      (finite.find nat_cmp k es ≡ None → lowest_of top cell length_cm (put nat_cmp k r es)
      ≡ capped cell (zone_of length_cm r) (lowest_of top cell length_cm es)) →
      lowest_of top cell length_cm (by_order o ((k, r) ∷ e ∷ es) ((e.0, r) ∷ es) (e ∷ put nat_cmp k r es))
      ≡ capped cell (zone_of length_cm r) (lowest_of top cell length_cm (e ∷ es))
  put_at Less k r e es missing rest = refl
  put_at Equal k r e es missing rest = absurd cc
  put_at Greater k r e es missing rest = rw (rest missing)
      (capped_in_any_order cell (zone_of length_cm e.1) (zone_of length_cm r) (lowest_of top cell length_cm es))

  -- so one that is put anywhere among the others caps their lowest limit
  pub put_among : (k : ℕ) (r : Restriction) (es : List (ℕ × Restriction)) → finite.find nat_cmp k es ≡ None →
      lowest_of top cell length_cm (put nat_cmp k r es)
      ≡ capped cell (zone_of length_cm r) (lowest_of top cell length_cm es)
  put_among k r [] missing = refl
  put_among k r (e ∷ es) missing = put_at (nat_cmp k e.0) k r e es missing (put_among k r es)

  -- so the order of the map changes nothing
  pub lowest_by_identity : (rs : List Restriction) → AreDistinct rs → lowest_limit top cell
      (map (zone_of length_cm) (finite.values (by_identity rs))) ≡ lowest_limit top cell (map (zone_of length_cm) rs)
  lowest_by_identity [] h = ap (lowest_of top cell length_cm)
      (nil_from_length (finite.entries (by_identity [])) (sym (finite.len-entries (by_identity [])) ∙ len_is [] tt))
  lowest_by_identity (r ∷ rs) h =
      let missing = sym (finite.get-entries (by_identity rs) r.id) ∙ get_is rs r.id ∙ h.0 in
      rw (finite.entries-insert nat_cmp_total (by_identity rs) r.id r)
      (put_among r.id r (finite.entries (by_identity rs)) missing
      ∙ ap (capped cell (zone_of length_cm r)) (lowest_by_identity rs h.1))
