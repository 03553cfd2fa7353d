-- The falls past a cell, one at a time: cells where the profile does not fall are left out, so the next fall comes
-- first.
use Rattle.std.proofs.Common.{◌≡◌, ℕ, zero, suc, ℤ, pos, negsuc, List, [], ◌∷◌, ◌++◌, Bool, false, map, ◌+◌, ◌-◌, ◌+ℤ◌}
use Rattle.std.proofs.Common.{◌≤ℤ◌, ◌<ℤ◌, refl, sym, ap, ◌∙◌, arith, append_assoc}
use Rattle.std.specs.Prelude.{filter}
use Rattle.std.specs.Int.{int_gap}
use Rattle.std.proofs.lemmas.Int.{ints, by_lt_z}
use Rattle.std.proofs.lemmas.List.{append-nil}
use Rattle.sdm_rules.specs.declared.targets.Fall.{Fall}
use Rattle.sdm_rules.specs.declared.targets.Target.{Target}
use Rattle.sdm_rules.specs.declared.targets.TargetKind.TheVariants.{Mrsp}
use Rattle.sdm_rules.specs.Cells.{cells, place_of_cell}
use Rattle.sdm_rules.specs.Targets.{is_fall, fall_at, IsNextFall}
use Rattle.sdm_speed.proofs.ZoneLaws.{int_gap_is}
use Rattle.sdm_targets.specs.Lists.{falls_past}

int_gap_none : (from to : ℤ) → to ≤ℤ from → int_gap from to ≡ 0
int_gap_none (pos a) (pos b) le = omega (arith, ints)
int_gap_none (pos a) (negsuc b) le = refl
int_gap_none (negsuc a) (pos b) le = absurd (omega (arith, ints))
int_gap_none (negsuc a) (negsuc b) le = omega (arith, ints)

-- the first `m` cells hold no fall
skip : (falls : ℤ → Bool) (c : ℤ) (m n total : ℕ) → total ≡ m + n →
    ((k : ℤ) → c ≤ℤ k → k <ℤ (c +ℤ pos m) → falls k ≡ false) →
    filter falls (cells c total) ≡ filter falls (cells (c +ℤ pos m) n)
skip falls c zero n total e none = let same : total ≡ n = omega arith in let here : c +ℤ pos 0 ≡ c =
    omega (arith, ints) in rw (same, here) refl
skip falls c (suc m) n total e none =
    let more : total ≡ suc (m + n) = omega arith in
    let here : falls c ≡ false = none c (omega (arith, ints)) (omega (arith, ints)) in
    let on : (c +ℤ pos 1) +ℤ pos m ≡ c +ℤ pos (suc m) = omega (arith, ints) in
    rw (more, here) (rw on at
    (skip falls (c +ℤ pos 1) m n (m + n) refl (λ k a b. none k (omega (arith, ints)) (omega (arith, ints)))))

-- no fall is left
pub none_left : (profile : ℤ → ℕ) (after end : ℤ) → ((c : ℤ) → after <ℤ c → c ≤ℤ end → is_fall profile c ≡ false) →
    falls_past profile after end ≡ []
none_left profile after end none =
    ap (map (fall_at profile))
    (skip (is_fall profile) (after +ℤ pos 1) (int_gap after end) 0 (int_gap after end) (omega arith) (λ k a b.
    by_lt_z end after
    (λ (l : end <ℤ after). let empty = int_gap_none after end (omega (arith, ints)) in absurd (omega (arith, ints)))
    (λ (g : after ≤ℤ end). let distance =
    int_gap_is after end g in none k (omega (arith, ints)) (omega (arith, ints)))))

-- the next fall comes first, and then those past it
pub next_first : (profile : ℤ → ℕ) (after end : ℤ) (fall : Fall) → IsNextFall profile after fall → fall.cell ≤ℤ end →
    falls_past profile after end ≡ record { kind = Mrsp; place = place_of_cell fall.cell; speed = fall.speed }
    ∷ falls_past profile fall.cell end
next_first profile after end fall next on =
    let beyond = next.beyond in
    let n = int_gap fall.cell end in
    let m = int_gap after fall.cell - 1 in
    let to_fall = int_gap_is after fall.cell (omega (arith, ints)) in
    let to_end = int_gap_is fall.cell end on in
    let whole = int_gap_is after end (omega (arith, ints)) in
    let there : (after +ℤ pos 1) +ℤ pos m ≡ fall.cell = omega (arith, ints) in
    let skipped = skip (is_fall profile) (after +ℤ pos 1) m (suc n) (int_gap after end) (omega (arith, ints))
    (λ k a b. next.first k (omega (arith, ints)) (omega (arith, ints))) in
    rw (next.lower, skipped, there, next.falls) refl

-- ---- the falls that are in a list, and those that are left

-- all are in it
pub all_in : (profile : ℤ → ℕ) (after end : ℤ) (found all : List Target) → found ++ falls_past profile after end
    ≡ all → ((c : ℤ) → after <ℤ c → c ≤ℤ end → is_fall profile c ≡ false) → found ≡ all
all_in profile after end found all both none =
    sym (append-nil found) ∙ ap (λ (left : List Target). found ++ left) (sym (none_left profile after end none)) ∙ both

-- one more is in it
pub one_more_in : (profile : ℤ → ℕ) (after end : ℤ) (fall : Fall) (found all : List Target) →
    found ++ falls_past profile after end ≡ all → IsNextFall profile after fall → fall.cell ≤ℤ end →
    (found ++ record { kind = Mrsp; place = place_of_cell fall.cell; speed = fall.speed } ∷ [])
    ++ falls_past profile fall.cell end ≡ all
one_more_in profile after end fall found all both next on = rw append_assoc
    (ap (λ (left : List Target). found ++ left) (sym (next_first profile after end fall next on)) ∙ both)
