-- The lowest speed of consecutive cells is that of the steps that they lie in: of the first cell's, and of each that
-- starts at or before the last.
use Rattle.std.proofs.Common.{◌≡◌, ℕ, zero, suc, ℤ, pos, List, [], ◌∷◌, min, int_le, if◌then◌else◌, ◌≤◌, ◌+ℤ◌, ◌≤ℤ◌}
use Rattle.std.proofs.Common.{◌<ℤ◌, drop, refl, arith, sym, ◌∙◌}
use Rattle.std.proofs.lemmas.Int.{ints, by_lt_z}
use Rattle.sdm_num.proofs.Comparisons.{le_is, not_le_is}
use Rattle.sdm_rules.specs.Cells.{lowest}
use Rattle.sdm_speed.specs.declared.steps.Step.{Step}
use Rattle.sdm_speed.specs.Steps.{AreAfter, AreRising, ArePartedAt, speed_to, speeds_of}
use Rattle.sdm_speed.proofs.StepLaws.{first_begun, none_begun, rest_later, rest_same}

-- speeds that are the same from a cell on have the same lowest
lowest_same : (f g : ℤ → ℕ) (from : ℤ) (n : ℕ) → ((c : ℤ) → from ≤ℤ c → f c ≡ g c) →
    lowest min f from n ≡ lowest min g from n
lowest_same f g from zero same = same from (omega (arith, ints))
lowest_same f g from (suc n) same =
    rw (same from (omega (arith, ints)), lowest_same f g (from +ℤ pos 1) n (λ c l. same c (omega (arith, ints)))) refl

-- it is at most the first
lowest_first : (f : ℤ → ℕ) (from : ℤ) (n : ℕ) → lowest min f from n ≤ f from
lowest_first f from zero = omega arith
lowest_first f from (suc n) = omega arith

-- the lowest of a speed and of the steps up to a cell
abbrev pub lowest_to : ℕ → List Step → ℤ → ℕ
lowest_to low [] to = low
lowest_to low (s ∷ ss) to = let more = lowest_to (min low s.speed) ss to in if int_le s.start to then more else low

-- a step that starts up to the cell counts
pub lowest_on : (low : ℕ) (s : Step) (ss : List Step) (to : ℤ) → s.start ≤ℤ to →
    lowest_to low (s ∷ ss) to ≡ lowest_to (min low s.speed) ss to
lowest_on low s ss to le = rw (le_is s.start to le) refl

-- one that starts past it doesn't, nor do those after it
pub lowest_end : (low : ℕ) (s : Step) (ss : List Step) (to : ℤ) → to <ℤ s.start → lowest_to low (s ∷ ss) to ≡ low
lowest_end low s ss to lt = rw (not_le_is s.start to lt) refl

-- with a speed of at most that before the steps: the lesser of it and of the cells' lowest speed
lowest_to_is : (low v : ℕ) (ss : List Step) (from : ℤ) (n : ℕ) (to : ℤ) → to ≡ from +ℤ pos n → AreAfter from ss →
    low ≤ v → min low (lowest min (speeds_of v ss) from n) ≡ lowest_to low ss to
lowest_to_is low v [] from zero to is after le = omega arith
lowest_to_is low v (s ∷ ss) from zero to is after le =
    let past = after.0 in
    rw (not_le_is s.start to (omega (arith, ints)), none_begun from v (s ∷ ss) from after (omega (arith, ints)))
    (omega arith)
lowest_to_is low v [] from (suc n) to is after le =
    let rest = lowest_to_is low v [] (from +ℤ pos 1) n to (omega (arith, ints)) tt le in omega arith
lowest_to_is low v (s ∷ ss) from (suc n) to is after le =
    by_lt_z (from +ℤ pos 1) s.start
    (λ (lt : (from +ℤ pos 1) <ℤ s.start).
    let rest = lowest_to_is low v (s ∷ ss) (from +ℤ pos 1) n to (omega (arith, ints)) (lt, after.1) le in
    let first = none_begun from v (s ∷ ss) from after (omega (arith, ints)) in
    omega arith)
    (λ (ge : s.start ≤ℤ (from +ℤ pos 1)).
    let past = after.0 in
    let here : from +ℤ pos 1 ≡ s.start = omega (arith, ints) in
    let first = none_begun from v (s ∷ ss) from after (omega (arith, ints)) in
    let rest = lowest_to_is (min low s.speed) s.speed ss s.start n to (omega (arith, ints)) after.1 (omega arith) in
    let same : lowest min (speeds_of v (s ∷ ss)) s.start n
    ≡ lowest min (speeds_of s.speed ss) s.start n = lowest_same _ _ s.start n (λ c l. first_begun v s ss c l) in
    let most = lowest_first (speeds_of s.speed ss) s.start n in
    let start_is = none_begun s.start s.speed ss s.start after.1 (omega (arith, ints)) in
    rw (le_is s.start to (omega (arith, ints)), first, here, same, ← rest) (omega arith))

-- the lowest of consecutive cells is that of the first one's speed and of the steps up to the last
lowest_of_steps : (v : ℕ) (ss : List Step) (from : ℤ) (n : ℕ) (to : ℤ) → to ≡ from +ℤ pos n → AreAfter from ss →
    lowest min (speeds_of v ss) from n ≡ lowest_to v ss to
lowest_of_steps v ss from n to is after =
    let whole = lowest_to_is v v ss from n to is after (omega arith) in
    let most = lowest_first (speeds_of v ss) from n in
    let first = none_begun from v ss from after (omega (arith, ints)) in
    omega arith

-- so it is of all steps, where the first `i` start at the first cell or before it: these count by the last of them
pub lowest_past : (v : ℕ) (ss : List Step) (i : ℕ) (from : ℤ) (n : ℕ) (to : ℤ) → to ≡ from +ℤ pos n → AreRising ss →
    ArePartedAt (from +ℤ pos 1) ss i → lowest_to (speed_to v ss i) (drop i ss) to ≡ lowest min (speeds_of v ss) from n
lowest_past v ss i from n to is rising parted =
    sym (lowest_of_steps (speed_to v ss i) (drop i ss) from n to is (rest_later v ss i from parted rising))
    ∙ sym (lowest_same (speeds_of v ss) (speeds_of (speed_to v ss i) (drop i ss)) from n (rest_same v ss i from parted))
