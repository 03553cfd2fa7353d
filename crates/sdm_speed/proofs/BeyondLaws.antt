-- The least identity of restrictions past a track's end is the same in whatever order they stand.
use Rattle.std.proofs.Common.{◌≡◌, ℕ, ℤ, pos, List, [], ◌∷◌, ◌++◌, map, Option, Some, None, Bool}
use Rattle.std.proofs.Common.{true, false, cond, int_lt, if◌then◌else◌, All, ◌≤ℤ◌, refl, sym, ap, ◌∙◌, arith}
use Rattle.std.specs.Ordering.{nat_cmp, is_eq}
use Rattle.std.specs.Cmp.{nat_cmp_total}
use Rattle.std.specs.FinMap as finite
use Rattle.std.specs.FinMap.Entries.{by_order, put}
use Rattle.std.specs.declared.cmp.Ordering.{Ordering}
use Rattle.std.specs.declared.cmp.Ordering.TheVariants.{Less, Equal, Greater}
use Rattle.std.proofs.lemmas.List.{nil_from_length}
use Rattle.std.proofs.lemmas.List.Elements.{All-nil, All-cons}
use Rattle.sdm_num.proofs.Comparisons.{not_lt_of}
use Rattle.sdm_rules.specs.declared.restrictions.Restriction.{Restriction}
use Rattle.sdm_rules.specs.TakeOver.{first_beyond, least_with, with_beyond}
use Rattle.sdm_speed.specs.Held.{by_identity, AreDistinct}
use Rattle.sdm_speed.proofs.HeldLaws.{get_is, len_is}

least_in_any_order : (a b : ℕ) (o : Option ℕ) →
    least_with a (Some (least_with b o)) ≡ least_with b (Some (least_with a o))
least_in_any_order a b None = omega arith
least_in_any_order a b (Some c) = omega arith

-- by whether the one and the other ends past the end
by_ends : (p q : Bool) (a b : ℕ) (o : Option ℕ) →
    (if p then Some (least_with a (if q then Some (least_with b o) else o)) else if q then Some (least_with b o) else o)
    ≡ (if q then Some (least_with b (if p then Some (least_with a o) else o)) else if p then Some (least_with a o) else o)
by_ends true true a b o = ap Some (least_in_any_order a b o)
by_ends true false a b o = refl
by_ends false true a b o = refl
by_ends false false a b o = refl

module _ (length_cm : ℤ) where
  pub beyond_in_any_order : (r e : Restriction) (o : Option ℕ) →
      with_beyond length_cm r (with_beyond length_cm e o) ≡ with_beyond length_cm e (with_beyond length_cm r o)
  beyond_in_any_order r e o = by_ends (int_lt length_cm (pos r.end)) (int_lt length_cm (pos e.end)) r.id e.id o

  -- one more at the end
  pub beyond_push : (rs : List Restriction) (r : Restriction) →
      first_beyond length_cm (rs ++ r ∷ []) ≡ with_beyond length_cm r (first_beyond length_cm rs)
  beyond_push [] r = refl
  beyond_push (x ∷ xs) r = ap (with_beyond length_cm x) (beyond_push xs r)
      ∙ beyond_in_any_order x r (first_beyond length_cm xs)

  -- of the entries of a map, in their order
  abbrev beyond_of : List (ℕ × Restriction) → Option ℕ
  beyond_of es = first_beyond length_cm (map (λ e. e.1) es)

  -- an entry that is put among the others counts as if it stood before them
  put_at : (o : Ordering) (k : ℕ) (r : Restriction) (e : ℕ × Restriction) (es : List (ℕ × Restriction)) →
      cond (is_eq o) (Some e.1) (finite.find nat_cmp k es) ≡ None →
      (finite.find nat_cmp k es ≡ None → beyond_of (put nat_cmp k r es) ≡ with_beyond length_cm r (beyond_of es)) →
      beyond_of (by_order o ((k, r) ∷ e ∷ es) ((e.0, r) ∷ es) (e ∷ put nat_cmp k r es))
      ≡ with_beyond length_cm r (beyond_of (e ∷ es))
  put_at Less k r e es missing rest = refl
  put_at Equal k r e es missing rest = absurd cc
  put_at Greater k r e es missing rest = rw (rest missing) (beyond_in_any_order e.1 r (beyond_of es))

  put_among : (k : ℕ) (r : Restriction) (es : List (ℕ × Restriction)) → finite.find nat_cmp k es ≡ None →
      beyond_of (put nat_cmp k r es) ≡ with_beyond length_cm r (beyond_of es)
  put_among k r [] missing = refl
  put_among k r (e ∷ es) missing = put_at (nat_cmp k e.0) k r e es missing (put_among k r es)

  -- so the order of the map changes nothing
  pub beyond_by_identity : (rs : List Restriction) → AreDistinct rs →
      first_beyond length_cm (finite.values (by_identity rs)) ≡ first_beyond length_cm rs
  beyond_by_identity [] h = ap beyond_of
      (nil_from_length (finite.entries (by_identity [])) (sym (finite.len-entries (by_identity [])) ∙ len_is [] tt))
  beyond_by_identity (r ∷ rs) h =
      let missing = sym (finite.get-entries (by_identity rs) r.id) ∙ get_is rs r.id ∙ h.0 in
      rw (finite.entries-insert nat_cmp_total (by_identity rs) r.id r)
      (put_among r.id r (finite.entries (by_identity rs)) missing
      ∙ ap (with_beyond length_cm r) (beyond_by_identity rs h.1))

  -- where there is none, all end at the end or before it
  none_here : (b : Bool) (id : ℕ) (o : Option ℕ) → (if b then Some (least_with id o) else o) ≡ None →
      (b ≡ false) × (o ≡ None)
  none_here true id o e = absurd cc
  none_here false id o e = (refl, e)

  pub all_fit : (rs : List Restriction) → first_beyond length_cm rs ≡ None → All (λ r. pos r.end ≤ℤ length_cm) rs
  all_fit [] none = All-nil (λ (r : Restriction). pos r.end ≤ℤ length_cm)
  all_fit (r ∷ rs) none =
      let here = none_here (int_lt length_cm (pos r.end)) r.id (first_beyond length_cm rs) none in
      All-cons (λ (x : Restriction). pos x.end ≤ℤ length_cm) r rs (not_lt_of _ _ here.0) (all_fit rs here.1)
