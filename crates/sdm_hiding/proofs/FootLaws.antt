-- Two feet of a row: what doesn't hide a curve is at or past it, and what hides it is at or before it at every greater
-- speed.
use Rattle.std.proofs.Common.{◌≡◌, ℕ, Bool, true, false, ◌<◌, ◌≤◌, ◌≤ℤ◌, ◌&&◌, nat_le, List, length, refl}
use Rattle.std.proofs.Common.{inl, inr, sym, ◌∙◌, pos}
use Rattle.std.specs.Prelude.{slice_index_or}
use Rattle.std.proofs.lemmas.Bool.{cases_lt, false≢true, le-leb, leb-true, lt-leb}
use Rattle.std.proofs.lemmas.List.{get_or_default}
use Rattle.sdm_num.proofs.Comparisons.{lt_of, not_lt_is, not_lt_of}
use Rattle.sdm_rules.specs.Slopes.{Slopes, IsUsable}
use Rattle.sdm_order.specs.CurvesInOrder.{IsAtOrPast}
use Rattle.sdm_order.proofs.Feet.{earlier_curves, passed_curves, steps}
use Rattle.sdm_hiding.specs.declared.rows.Foot.{Foot}
use Rattle.sdm_hiding.specs.Asking.{place_on}
use Rattle.sdm_hiding.specs.Hiding.{hides, IsAt}

-- stands for a foot past the last
abbrev pub no_foot : Foot
no_foot = record { place = pos 0; permitted = 0; speed = 0 }

-- at each index of the row stands a foot
abbrev pub foot_at : List Foot → ℕ → Foot
foot_at feet i = slice_index_or feet i no_foot

pub stands_at : (feet : List Foot) (i : ℕ) → i < length feet → IsAt feet i (foot_at feet i)
stands_at feet i known = record { known = known; is = λ d. get_or_default feet i d no_foot known }

-- what stands at an index is one foot
pub one_foot : (feet : List Foot) (i : ℕ) (f g : Foot) → IsAt feet i f → IsAt feet i g → f ≡ g
one_foot feet i f g one other = sym (one.is f) ∙ other.is f

-- whether a speed is no greater, and what else is so, of which one isn't
not_both : (a b : Bool) → (a && b) ≡ false → a ≡ true → b ≡ false
not_both true b e k = e
not_both false b e k = absurd (false≢true k)

first_so : (a b : Bool) → (a && b) ≡ true → a ≡ true
first_so true b e = refl
first_so false b e = absurd (false≢true e)

second_so : (a b : Bool) → (a && b) ≡ true → b ≡ true
second_so true b e = e
second_so false b e = absurd (false≢true e)

module _ (on : Slopes) (h f : Foot) where
  -- what doesn't hide a curve is at or past its foot at its foot speed
  pub past_foot : hides on h f ≡ false → IsAtOrPast on f.place f.speed h.place h.speed
  past_foot clear slower =
      not_lt_of _ f.place (not_both (nat_le h.speed f.speed) _ clear (le-leb h.speed f.speed slower))

  -- and the other way round
  pub not_hidden : IsAtOrPast on f.place f.speed h.place h.speed → hides on h f ≡ false
  not_hidden past = elim (cases_lt f.speed h.speed) [
    | inl faster ↦ rw (lt-leb h.speed f.speed faster) refl
    | inr slower ↦ rw (le-leb h.speed f.speed slower) (not_lt_is _ f.place (past slower))
  ]

  -- what hides a curve is no faster
  pub no_faster : hides on h f ≡ true → h.speed ≤ f.speed
  no_faster is = leb-true _ _ (first_so (nat_le h.speed f.speed) _ is)

  -- and at or before it at each speed from its foot speed on
  pub at_or_before : (bec : ℕ) → IsUsable on → f.speed ≤ bec → hides on h f ≡ true →
      place_on on bec h ≤ℤ place_on on bec f
  at_or_before bec usable fast is =
      earlier_curves on f.place h.place f.speed h.speed bec usable (no_faster is) fast
      (lt_of _ f.place (second_so (nat_le h.speed f.speed) _ is))

  -- a curve further on that doesn't hide one is at or past it
  pub at_or_past : (bec : ℕ) → IsUsable on → f.place ≤ℤ h.place → hides on h f ≡ false →
      place_on on bec f ≤ℤ place_on on bec h
  at_or_past bec usable further clear =
      passed_curves on f.place h.place f.speed h.speed bec usable further (past_foot clear)

-- of three in order, where the second doesn't hide the first, nor the third the second, the third doesn't hide the first
pub none_hidden : (on : Slopes) (f g h : Foot) → IsUsable on → f.place ≤ℤ g.place → g.place ≤ℤ h.place →
    hides on g f ≡ false → hides on h g ≡ false → hides on h f ≡ false
none_hidden on f g h usable le le' one two =
    not_hidden on h f
    (steps on f.place g.place h.place f.speed g.speed h.speed usable le le' (past_foot on g f one) (past_foot on h g two))
