-- What is kept of falls: where it is found in its list, and a list that is made from the first fall to the last. While
-- it is made, what was made is completed by whatever stands at the falls past the cell reached.
use Rattle.std.proofs.Common.{◌≡◌, ℕ, ℤ, pos, List, [], ◌∷◌, ◌++◌, length, get_or, true, false, ◌<◌, ◌-ℤ◌, ◌≤ℤ◌, ◌<ℤ◌, refl, sym}
use Rattle.std.proofs.Common.{subst, arith, append_assoc}
use Rattle.std.specs.Int.{int_gap}
use Rattle.std.proofs.lemmas.Int.{ints, by_lt_z}
use Rattle.std.proofs.lemmas.List.{get_or_default}
use Rattle.sdm_rules.specs.declared.targets.Fall.{Fall}
use Rattle.sdm_rules.specs.Targets.{is_fall, IsNextFall}
use Rattle.sdm_speed.specs.Falls.{AreAtFalls}
use Rattle.sdm_speed.proofs.ZoneLaws.{int_gap_is}
use Rattle.sdm_speed.proofs.FallLists.{each_falls, each_lower, none_between}
use Rattle.sdm_braking.specs.KeptFalls.{ArePartedPast, IsFallAt, KeptFallData, fall_of, first_cell}

module _ (p : ℤ → ℕ) (ks : List KeptFallData) (i : ℕ) (cell : ℤ) (h : AreAtFalls fall_of p first_cell ks) where
  -- the profile falls at the cell of what is found
  pub found : (k : KeptFallData) → i < length ks → k ≡ get_or ks i k → k.fall.cell ≡ cell → IsFallAt p cell k.fall
  found k known is here =
      let falls = each_falls fall_of p first_cell ks i k h known in
      let speed = each_lower fall_of p first_cell ks i k h known in
      rw (← here) (record {
        cell = refl;
        falls = subst (λ (x : KeptFallData). is_fall p x.fall.cell ≡ true) (sym is) falls;
        speed = subst (λ (x : KeptFallData). x.fall.speed ≡ p x.fall.cell) (sym is) speed;
      })

  -- where the first that is not before the cell is not at it, the profile does not fall there
  pub missing : first_cell <ℤ cell → ArePartedPast fall_of (cell -ℤ pos 1) ks i →
      ((k : KeptFallData) → i < length ks → k ≡ get_or ks i k → k.fall.cell ≡ cell → ⊥) → is_fall p cell ≡ false
  missing past parts other =
      none_between fall_of p first_cell cell ks i past
      (λ k d l m. let on = parts.reached k d l m in omega (arith, ints))
      (λ d known.
      let from = parts.past i d (omega arith) known in
      by_lt_z cell (get_or ks i d).fall.cell
      (λ l. l)
      (λ (le : (get_or ks i d).fall.cell ≤ℤ cell).
      absurd (other (get_or ks i d) known (get_or_default ks i d (get_or ks i d) known) (omega (arith, ints)))))
      h

-- a later cell has less before it
pub less_before : (a b top : ℤ) → a <ℤ b → b ≤ℤ top → int_gap b top < int_gap a top
less_before a b top lt le =
    let from_b = int_gap_is b top le in
    let from_a = int_gap_is a top (omega (arith, ints)) in
    omega (arith, ints)

-- ---- a list that is made from the first fall to the last

-- what stands at the falls past a cell completes what was made
abbrev pub IsBegun : (ℤ → ℕ) → ℤ → List KeptFallData → Type 0
IsBegun p at made =
    (rest : List KeptFallData) → AreAtFalls fall_of p at rest → AreAtFalls fall_of p first_cell (made ++ rest)

-- one more
pub begun_more : (p : ℤ → ℕ) (at : ℤ) (made : List KeptFallData) (k : KeptFallData) (fall : Fall) → k.fall ≡ fall →
    IsNextFall p at fall → IsBegun p at made → IsBegun p fall.cell (made ++ k ∷ [])
begun_more p at made k fall is next h rest left = rw append_assoc (h (k ∷ rest) (rw is (next, left)))
