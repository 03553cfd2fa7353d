-- The speed of a cell is that of the last step that has begun there: steps that have begun can be left out but the
-- last, and steps that start past the cell say nothing of it.
use Rattle.std.proofs.Common.{◌≡◌, ℕ, zero, suc, ℤ, pos, List, [], ◌∷◌, length, get_or, set, drop, inl, inr}
use Rattle.std.proofs.Common.{int_le, int_lt, ◌-◌, ◌<◌, ◌≤◌, ◌+ℤ◌, ◌≤ℤ◌, ◌<ℤ◌, refl, ◌∙◌, arith}
use Rattle.std.specs.List.Sorted.{IsPartitionedBy}
use Rattle.std.proofs.lemmas.Int.{ints}
use Rattle.sdm_num.proofs.Comparisons.{le_is, le_of, not_le_is, lt_is, lt_of}
use Rattle.sdm_speed.specs.declared.steps.Step.{Step}
use Rattle.sdm_speed.specs.Steps.{AreAfter, AreRising, ArePartedAt, IsStart, speed_to, speeds_of}

-- stands for a step that there is not
abbrev pub none : Step
none = record { start = pos 0; speed = 0 }

-- ---- steps that rise

-- steps past a cell rise
pub rising_of : (cell : ℤ) (ss : List Step) → AreAfter cell ss → AreRising ss
rising_of cell [] after = tt
rising_of cell (s ∷ ss) after = after.1

-- what starts past a cell starts past an earlier one
pub after_earlier : (cell c : ℤ) (ss : List Step) → AreAfter cell ss → c ≤ℤ cell → AreAfter c ss
after_earlier cell c [] after le = tt
after_earlier cell c (s ∷ ss) after le = (let past = after.0 in omega (arith, ints), after.1)

-- each step starts past the cell
pub after_all : (cell : ℤ) (ss : List Step) (j : ℕ) (d : Step) → AreAfter cell ss → j < length ss →
    cell <ℤ (get_or ss j d).start
after_all cell [] j d after known = absurd (omega arith)
after_all cell (s ∷ ss) zero d after known = after.0
after_all cell (s ∷ ss) (suc j) d after known = let first = after.0 in let rest =
    after_all s.start ss j d after.1 (omega arith) in omega (arith, ints)

-- each start lies past the cell
pub start_after : (cell b : ℤ) (ss : List Step) → AreAfter cell ss → IsStart b ss → cell <ℤ b
start_after cell b [] after start = absurd start
start_after cell b (s ∷ ss) after (inl e) = let past = after.0 in rw (← e) past
start_after cell b (s ∷ ss) after (inr later) = let past = after.0 in let rest =
    start_after s.start b ss after.1 later in omega (arith, ints)

-- a later step starts no earlier
rises : (ss : List Step) (i j : ℕ) (d : Step) → AreRising ss → i ≤ j → j < length ss →
    (get_or ss i d).start ≤ℤ (get_or ss j d).start
rises [] i j d rising le known = absurd (omega arith)
rises (s ∷ ss) zero zero d rising le known = omega (arith, ints)
rises (s ∷ ss) zero (suc j) d rising le known = let past =
    after_all s.start ss j d rising (omega arith) in omega (arith, ints)
rises (s ∷ ss) (suc i) zero d rising le known = absurd (omega arith)
rises (s ∷ ss) (suc i) (suc j) d rising le known =
    rises ss i j d (rising_of s.start ss rising) (omega arith) (omega arith)

-- and indeed past it
rises_past : (ss : List Step) (i j : ℕ) (d : Step) → AreRising ss → i < j → j < length ss →
    (get_or ss i d).start <ℤ (get_or ss j d).start
rises_past [] i j d rising lt known = absurd (omega arith)
rises_past (s ∷ ss) i zero d rising lt known = absurd (omega arith)
rises_past (s ∷ ss) zero (suc j) d rising lt known = after_all s.start ss j d rising (omega arith)
rises_past (s ∷ ss) (suc i) (suc j) d rising lt known =
    rises_past ss i j d (rising_of s.start ss rising) (omega arith) (omega arith)

-- where the step before an index starts at a cell or before it, and that at the index past it, they part the steps
pub parted_between : (ss : List Step) (i : ℕ) (cell : ℤ) → AreRising ss → i ≤ length ss →
    ((d : Step) → 1 ≤ i → (get_or ss (i - 1) d).start ≤ℤ cell) →
    ((d : Step) → i < length ss → cell <ℤ (get_or ss i d).start) → ArePartedAt (cell +ℤ pos 1) ss i
parted_between ss i cell rising known begun later = record {
  bound = known;
  before = λ k d l. let r = rises ss k (i - 1) d rising (omega arith) (omega arith) in
      omega (arith, ints, begun d (omega arith));
  from = λ k d l m. let r = rises ss i k d rising l m in omega (arith, ints, later d (omega arith));
}

-- a step parts them behind it, at the cell where it starts
pub parted_behind : (ss : List Step) (i : ℕ) (cell : ℤ) → AreRising ss → 1 ≤ i → i ≤ length ss →
    ((d : Step) → cell ≡ (get_or ss (i - 1) d).start) → ArePartedAt (cell +ℤ pos 1) ss i
parted_behind ss i cell rising some known here = record {
  bound = known;
  before = λ k d l. let r = rises ss k (i - 1) d rising (omega arith) (omega arith) in omega (arith, ints, here d);
  from = λ k d l m. let r = rises_past ss (i - 1) k d rising (omega arith) m in omega (arith, ints, here d);
}

-- the steps that start before a cell come first
pub starts_parted : (ss : List Step) (cell : ℤ) → AreRising ss → IsPartitionedBy (λ s. int_lt s.start cell) ss
starts_parted ss cell rising i j d le known on =
    let begun : (get_or ss j d).start <ℤ cell = lt_of _ _ on in
    lt_is (get_or ss i d).start cell (let r = rises ss i j d rising le known in omega (arith, ints))

-- so do those that start at it or before it
pub begun_parted : (ss : List Step) (cell : ℤ) → AreRising ss → IsPartitionedBy (λ s. int_le s.start cell) ss
begun_parted ss cell rising i j d le known on =
    let begun : (get_or ss j d).start ≤ℤ cell = le_of _ _ on in
    le_is (get_or ss i d).start cell (let r = rises ss i j d rising le known in omega (arith, ints))

-- ---- the speed of a cell

-- no step has begun
pub none_begun : (cell : ℤ) (v : ℕ) (ss : List Step) (c : ℤ) → AreAfter cell ss → c ≤ℤ cell → speeds_of v ss c ≡ v
none_begun cell v [] c after le = refl
none_begun cell v (s ∷ ss) c after le =
    let past = after.0 in
    rw (not_le_is s.start c (omega (arith, ints))) (none_begun s.start v ss c after.1 (omega (arith, ints)))

-- the first step has begun
pub first_begun : (v : ℕ) (s : Step) (ss : List Step) (c : ℤ) → s.start ≤ℤ c →
    speeds_of v (s ∷ ss) c ≡ speeds_of s.speed ss c
first_begun v s ss c begun = rw (le_is s.start c begun) refl

-- the first `i` steps have begun
rest_begun : (v : ℕ) (ss : List Step) (i : ℕ) (c : ℤ) → ((k : ℕ) (d : Step) → k < i → k < length ss →
    (get_or ss k d).start ≤ℤ c) → speeds_of v ss c ≡ speeds_of (speed_to v ss i) (drop i ss) c
rest_begun v [] zero c begun = refl
rest_begun v [] (suc i) c begun = refl
rest_begun v (s ∷ ss) zero c begun = refl
rest_begun v (s ∷ ss) (suc i) c begun = first_begun v s ss c (begun 0 s (omega arith) (omega arith))
    ∙ (rest_begun s.speed ss i c (λ k d l m. begun (suc k) d (omega arith) (omega arith)))

-- the steps that are left start past the cell
rest_after : (ss : List Step) (i : ℕ) (c : ℤ) → AreRising ss →
    ((k : ℕ) (d : Step) → i ≤ k → k < length ss → c <ℤ (get_or ss k d).start) → AreAfter c (drop i ss)
rest_after [] zero c rising later = tt
rest_after [] (suc i) c rising later = tt
rest_after (s ∷ ss) zero c rising later = (later 0 s (omega arith) (omega arith), rising)
rest_after (s ∷ ss) (suc i) c rising later =
    rest_after ss i c (rising_of s.start ss rising) (λ k d l m. later (suc k) d (omega arith) (omega arith))

module _ (v : ℕ) (ss : List Step) (i : ℕ) (cell : ℤ) (parted : ArePartedAt (cell +ℤ pos 1) ss i) where
  -- from a cell on, of the steps that start at it or before it only the last counts
  pub rest_same : (c : ℤ) → cell ≤ℤ c → speeds_of v ss c ≡ speeds_of (speed_to v ss i) (drop i ss) c
  rest_same c le = rest_begun v ss i c (λ k d l m. let b = parted.before k d l in omega (arith, ints))

  -- the others start past it
  pub rest_later : AreRising ss → AreAfter cell (drop i ss)
  rest_later rising = rest_after ss i cell rising (λ k d l m. let f = parted.from k d l m in omega (arith, ints))

  -- so it has the speed of that last one
  pub rest_first : AreRising ss → speeds_of v ss cell ≡ speed_to v ss i
  rest_first rising = rest_same cell (omega (arith, ints))
      ∙ none_begun cell (speed_to v ss i) (drop i ss) cell (rest_later rising) (omega (arith, ints))

-- the speed up to a step is that of the step before it
pub speed_to_next : (v : ℕ) (ss : List Step) (i : ℕ) (d : Step) → i < length ss →
    speed_to v ss (suc i) ≡ (get_or ss i d).speed
speed_to_next v [] i d known = absurd (omega arith)
speed_to_next v (s ∷ ss) zero d known = refl
speed_to_next v (s ∷ ss) (suc i) d known = speed_to_next s.speed ss i d (omega arith)

-- a step has the speed of its start
pub speed_at_start : (v : ℕ) (ss : List Step) (k : ℕ) (d : Step) → AreRising ss → k < length ss →
    speeds_of v ss (get_or ss k d).start ≡ (get_or ss k d).speed
speed_at_start v [] k d rising known = absurd (omega arith)
speed_at_start v (s ∷ ss) zero d rising known = first_begun v s ss s.start (omega (arith, ints))
    ∙ none_begun s.start s.speed ss s.start rising (omega (arith, ints))
speed_at_start v (s ∷ ss) (suc k) d rising known =
    let past = after_all s.start ss k d rising (omega arith) in
    first_begun v s ss (get_or ss k d).start (omega (arith, ints))
    ∙ speed_at_start s.speed ss k d (rising_of s.start ss rising) (omega arith)

-- where a step starts at the cell, it is the first that does not start before it
pub start_here : (ss : List Step) (i : ℕ) (cell : ℤ) (d : Step) → AreRising ss → ArePartedAt cell ss i →
    IsStart cell ss → (i < length ss) × ((get_or ss i d).start ≡ cell)
start_here [] i cell d rising parted start = absurd start
start_here (s ∷ ss) zero cell d rising parted (inl e) = (omega arith, e)
start_here (s ∷ ss) zero cell d rising parted (inr later) =
    let past = start_after s.start cell ss rising later in
    let from = parted.from 0 s (omega arith) (omega arith) in
    absurd (omega (arith, ints))
start_here (s ∷ ss) (suc i) cell d rising parted (inl e) = let before =
    parted.before 0 s (omega arith) in absurd (omega (arith, ints))
start_here (s ∷ ss) (suc i) cell d rising parted (inr later) =
    let bound = parted.bound in
    let rest = start_here ss i cell d (rising_of s.start ss rising)
    (record {
      bound = omega arith;
      before = λ k e l. parted.before (suc k) e (omega arith);
      from =
          λ k e l m. parted.from (suc k) e (omega arith) (omega arith);
    }) later in
    (omega (arith, rest.0), rest.1)

-- a step that starts where the one before it in its place did keeps the starts past a cell, and rising
set_after : (cell : ℤ) (ss : List Step) (i : ℕ) (s d : Step) → s.start ≡ (get_or ss i d).start → AreAfter cell ss →
    AreAfter cell (set ss i s)
set_after cell [] i s d e h = h
set_after cell (x ∷ xs) zero s d e h = rw e h
set_after cell (x ∷ xs) (suc i) s d e h = (h.0, set_after x.start xs i s d e h.1)

-- and rising
pub set_rising : (ss : List Step) (i : ℕ) (s d : Step) → s.start ≡ (get_or ss i d).start → AreRising ss →
    AreRising (set ss i s)
set_rising [] i s d e h = h
set_rising (x ∷ xs) zero s d e h = rw e h
set_rising (x ∷ xs) (suc i) s d e h = set_after x.start xs i s d e h
