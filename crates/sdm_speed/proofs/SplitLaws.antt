-- A step that is put where it starts, with the speed that holds there, changes no speed: before its start it says
-- nothing, and from there on it says what held. Where both ends of a zone were put, the zone covers the steps from the
-- one to the other.
use Rattle.std.proofs.Common.{◌≡◌, ◌⊎◌, ℕ, zero, suc, ℤ, List, [], ◌∷◌, length, get_or, set, take, drop, ◌++◌}
use Rattle.std.proofs.Common.{◌+◌, ◌-◌, Bool, true, false, if◌then◌else◌, int_le, Option, Some, None, inl, inr, ◌<◌, ◌≤◌}
use Rattle.std.proofs.Common.{◌≤ℤ◌, ◌<ℤ◌, refl, sym, ap, ◌∙◌, arith}
use Rattle.std.specs.List.{insert, copy_within}
use Rattle.std.proofs.lemmas.Bool.{cases_lt}
use Rattle.std.proofs.lemmas.Int.{ints, by_lt_z}
use Rattle.std.proofs.lemmas.List.{append-nil, drop_all, drop_at, drop-append-le, get_or-take, length_push, length-drop}
use Rattle.std.proofs.lemmas.List.{length-append, length-take-le, set_split, take_at, take-append-le, take-take}
use Rattle.std.proofs.lemmas.List.Edits.{get_or-insert_above, get_or-insert_at, get_or-insert_below, length-insert}
use Rattle.sdm_num.proofs.Comparisons.{le_is, lt_is, not_le_is, not_lt_is}
use Rattle.sdm_rules.specs.Profile.{Zone, covers}
use Rattle.sdm_speed.specs.declared.steps.Step.{Step}
use Rattle.sdm_speed.specs.Steps.{AreAfter, AreCovered, AreRising, ArePartedAt, IsSplit, IsSplitAt, IsStart}
use Rattle.sdm_speed.specs.Steps.{KeepsStarts, speed_to, speeds_of}
use Rattle.sdm_speed.proofs.StepLaws.{first_begun, none}

-- a step is put behind all, the steps from an index on are moved up by one, and it is put into the gap: it is inserted
pub moved_up : (x : Step) (ss : List Step) (i : ℕ) → i ≤ length ss →
    set (copy_within (ss ++ x ∷ []) i (length ss) (i + 1)) i x ≡ insert ss i x
moved_up x ss i known =
    let all = ss ++ x ∷ [] in
    let front = take (i + 1) all in
    let long : length front ≡ i + 1 = length-take-le (i + 1) all (omega (arith, known, length_push ss x)) in
    let later : take (length ss - i) (drop i all) ≡ drop i ss =
    ap (take (length ss - i)) (drop-append-le i ss (x ∷ []) known)
    ∙ take_at (drop i ss) (x ∷ []) (length ss - i) (length-drop i ss) in
    let none : drop (i + 1 + (length ss - i)) all ≡ [] = drop_all _ all (omega (arith, known, length_push ss x)) in
    let moved : copy_within all i (length ss) (i + 1) ≡ front ++ drop i ss = rw (later, none) (append-nil _) in
    let before : take i (front ++ drop i ss) ≡ take i ss =
    take-append-le i front (drop i ss) (omega (arith, long)) ∙ take-take i (i + 1) all (omega arith)
    ∙ take-append-le i ss (x ∷ []) known in
    let past : drop (suc i) (front ++ drop i ss) ≡ drop i ss =
    drop_at front (drop i ss) (suc i) (omega (arith, long)) in
    rw moved (set_split (front ++ drop i ss) i x (omega (arith, long, length-append front (drop i ss)))
    ∙ rw (before, past) refl)

either : (b : Bool) (v : ℕ) → (if b then v else v) ≡ v
either true v = refl
either false v = refl

-- before its start a step says nothing
not_begun : (x : Step) (v : ℕ) (c : ℤ) → c <ℤ x.start → (if int_le x.start c then x.speed else v) ≡ v
not_begun x v c lt = rw (not_le_is x.start c lt) refl

-- with the speed that holds there it changes nothing
same_speed : (x : Step) (v : ℕ) (c : ℤ) → x.speed ≡ v → (if int_le x.start c then x.speed else v) ≡ v
same_speed x v c is = rw is (either (int_le x.start c) v)

-- before its start
insert_past : (x : Step) (v : ℕ) (ss : List Step) (i : ℕ) (c : ℤ) → c <ℤ x.start →
    speeds_of v (insert ss i x) c ≡ speeds_of v ss c
insert_past x v ss zero c lt = ap (λ w. speeds_of w ss c) (not_begun x v c lt)
insert_past x v [] (suc i) c lt = not_begun x v c lt
insert_past x v (s ∷ ss) (suc i) c lt = insert_past x (if int_le s.start c then s.speed else v) ss i c lt

-- where all steps before it have begun
insert_begun : (x : Step) (v : ℕ) (ss : List Step) (i : ℕ) (c : ℤ) → x.speed ≡ speed_to v ss i →
    ((k : ℕ) (d : Step) → k < i → k < length ss → (get_or ss k d).start ≤ℤ c) →
    speeds_of v (insert ss i x) c ≡ speeds_of v ss c
insert_begun x v ss zero c is begun = ap (λ w. speeds_of w ss c) (same_speed x v c is)
insert_begun x v [] (suc i) c is begun = same_speed x v c is
insert_begun x v (s ∷ ss) (suc i) c is begun =
    let here = begun 0 s (omega arith) (omega arith) in
    first_begun v s (insert ss i x) c here ∙ insert_begun x s.speed ss i c is
    (λ k d l m. begun (suc k) d (omega arith) (omega arith)) ∙ sym (first_begun v s ss c here)

-- a step with the speed that holds where it starts changes no speed
pub insert_same : (x : Step) (v : ℕ) (ss : List Step) (i : ℕ) (c : ℤ) → x.speed ≡ speed_to v ss i →
    ((k : ℕ) (d : Step) → k < i → k < length ss → (get_or ss k d).start <ℤ x.start) →
    speeds_of v (insert ss i x) c ≡ speeds_of v ss c
insert_same x v ss i c is before =
    by_lt_z c x.start
    (λ (lt : c <ℤ x.start). insert_past x v ss i c lt)
    (λ (le : x.start ≤ℤ c). insert_begun x v ss i c is (λ k d l m. let b = before k d l m in omega (arith, ints)))

-- the starts still rise
module _ (x : Step) where
  -- a step that is put between an earlier and a later one keeps the starts past a cell
  insert_after : (cell : ℤ) (ss : List Step) (i : ℕ) → AreAfter cell ss → cell <ℤ x.start →
      ((k : ℕ) (d : Step) → k < i → k < length ss → (get_or ss k d).start <ℤ x.start) →
      ((d : Step) → i < length ss → x.start <ℤ (get_or ss i d).start) → AreAfter cell (insert ss i x)
  insert_after cell [] zero after past before later = (past, tt)
  insert_after cell [] (suc i) after past before later = (past, tt)
  insert_after cell (s ∷ ss) zero after past before later = (past, (later s (omega arith), after.1))
  insert_after cell (s ∷ ss) (suc i) after past before later = (
    after.0,
    insert_after s.start ss i after.1 (before 0 s (omega arith) (omega arith))
        (λ k d l m. before (suc k) d (omega arith) (omega arith)) (λ d l. later d (omega arith)),
  )

  -- and rising
  pub insert_rising : (ss : List Step) (i : ℕ) → AreRising ss →
      ((k : ℕ) (d : Step) → k < i → k < length ss → (get_or ss k d).start <ℤ x.start) →
      ((d : Step) → i < length ss → x.start <ℤ (get_or ss i d).start) → AreRising (insert ss i x)
  insert_rising [] zero rising before later = tt
  insert_rising [] (suc i) rising before later = tt
  insert_rising (s ∷ ss) zero rising before later = (later s (omega arith), rising)
  insert_rising (s ∷ ss) (suc i) rising before later =
      insert_after s.start ss i rising (before 0 s (omega arith) (omega arith))
      (λ k d l m. before (suc k) d (omega arith) (omega arith)) (λ d l. later d (omega arith))

  -- it starts where it starts, and no start is lost
  pub insert_start : (ss : List Step) (i : ℕ) → IsStart x.start (insert ss i x)
  insert_start [] zero = inl refl
  insert_start [] (suc i) = inl refl
  insert_start (s ∷ ss) zero = inl refl
  insert_start (s ∷ ss) (suc i) = inr (insert_start ss i)

  -- the starts of the others stay
  pub insert_keeps : (ss : List Step) (i : ℕ) → KeepsStarts ss (insert ss i x)
  insert_keeps [] zero cell start = absurd start
  insert_keeps [] (suc i) cell start = absurd start
  insert_keeps (s ∷ ss) zero cell start = inr start
  insert_keeps (s ∷ ss) (suc i) cell (inl e) = inl e
  insert_keeps (s ∷ ss) (suc i) cell (inr later) = inr (insert_keeps ss i cell later)

  -- and no other but its own is there
  pub insert_only : (ss : List Step) (i : ℕ) (c : ℤ) → IsStart c (insert ss i x) → (c ≡ x.start) ⊎ IsStart c ss
  insert_only [] zero c (inl e) = inl (sym e)
  insert_only [] zero c (inr none) = absurd none
  insert_only [] (suc i) c (inl e) = inl (sym e)
  insert_only [] (suc i) c (inr none) = absurd none
  insert_only (s ∷ ss) zero c (inl e) = inl (sym e)
  insert_only (s ∷ ss) zero c (inr later) = inr later
  insert_only (s ∷ ss) (suc i) c (inl e) = inr (inl e)
  insert_only (s ∷ ss) (suc i) c (inr later) = elim (insert_only ss i c later) [
    | inl e ↦ inl e
    | inr rest ↦ inr (inr rest)
  ]

-- a step that starts at a cell is put behind those that start before it, and before the others
pub insert_parted : (x : Step) (ss : List Step) (i : ℕ) → ArePartedAt x.start ss i →
    ArePartedAt x.start (insert ss i x) i
insert_parted x ss i parted = record {
  bound = omega (arith, parted.bound, length-insert ss i x parted.bound);
  before = λ k d l. rw (get_or-insert_below ss i x d k l parted.bound) (parted.before k d l);
  from = λ k d l m. elim (cases_lt i k) [
    | inl later ↦ (let next : k ≡ k - 1 + 1 = omega (arith, later) in
        let moved : get_or (insert ss i x) k d ≡ get_or ss (k - 1) d =
        ap (λ (j : ℕ). get_or (insert ss i x) j d) next
        ∙ get_or-insert_above ss i x d (k - 1) (omega (arith, later)) parted.bound in
        rw moved (parted.from (k - 1) d (omega (arith, later))
        (omega (arith, later, m, length-insert ss i x parted.bound))))
    | inr here ↦ (let same : k ≡ i = omega (arith, here, l) in
        rw (same, get_or-insert_at ss i x d parted.bound) (omega (arith, ints)))
  ];
}

-- each step has a start
pub index_is_start : (ss : List Step) (i : ℕ) (d : Step) → i < length ss → IsStart (get_or ss i d).start ss
index_is_start [] i d known = absurd (omega arith)
index_is_start (s ∷ ss) zero d known = inl refl
index_is_start (s ∷ ss) (suc i) d known = inr (index_is_start ss i d (omega arith))

-- ---- where the ends of a zone were put

-- the same index in lists that begin alike
get_same : (xs ys : List Step) (i k : ℕ) (d : Step) → take i xs ≡ take i ys → k < i → get_or xs k d ≡ get_or ys k d
get_same xs ys i k d same l =
    sym (get_or-take i xs k d l) ∙ ap (λ (ss : List Step). get_or ss k d) same ∙ get_or-take i ys k d l

-- no more steps start before a cell than before a later one
pub parted_earlier : (ss : List Step) (a b : ℤ) (i j : ℕ) → a ≤ℤ b → ArePartedAt a ss i → ArePartedAt b ss j → i ≤ j
parted_earlier ss a b i j le first past = elim (cases_lt j i) [
  | inl lt ↦ (let bound = first.bound in let before = first.before j none lt in let from =
      past.from j none (omega arith) (omega arith) in absurd (omega (arith, ints)))
  | inr ge ↦ ge
]

module _ (limit : ℕ) where
  -- the zone of this limit between two ends
  abbrev zone : Option ℤ → Option ℤ → Zone
  zone first past = record { first = first; past = past; limit = limit }

  -- a cell in the zone, before it, and past it
  covered_cell : (f p c : ℤ) → f ≤ℤ c → c <ℤ p → covers c (zone (Some f) (Some p)) ≡ true
  covered_cell f p c from before = rw (le_is f c from, lt_is c p before) refl

  -- before its first cell a zone covers none
  cell_before : (f c : ℤ) (past : Option ℤ) → c <ℤ f → covers c (zone (Some f) past) ≡ false
  cell_before f c past before = rw (not_le_is f c before) refl

  -- nor from its end on
  cell_past : (f p c : ℤ) → p ≤ℤ c → covers c (zone (Some f) (Some p)) ≡ false
  cell_past f p c past =
      by_lt_z c f
      (λ (lt : c <ℤ f). cell_before f c (Some p) lt)
      (λ (le : f ≤ℤ c). rw (le_is f c le, not_lt_is c p past) refl)

  -- from the first end up to the other; where that comes first, the zone covers nothing
  between : (f p : ℤ) (old mid new : List Step) (from to : ℕ) → IsSplitAt f old mid from → IsSplitAt p mid new to →
      AreCovered (zone (Some f) (Some p)) new from to
  between f p old mid new from to first past =
      by_lt_z p f
      (λ (lt : p <ℤ f).
      let none_of = parted_earlier mid p f to from (omega (arith, ints)) past.parted_before first.parted in
      let off : (c : ℤ) → covers c (zone (Some f) (Some p)) ≡ false = λ c. by_lt_z c f
      (λ (l : c <ℤ f). cell_before f c (Some p) l) (λ (l : f ≤ℤ c). cell_past f p c (omega (arith, ints))) in
      record {
        bound = past.parted.bound;
        before = λ k d l m. off _;
        within = λ k d l m. absurd (omega arith);
        past = λ k d l m. off _;
      })
      (λ (le : f ≤ℤ p).
      let some = parted_earlier mid f p from to le first.parted past.parted_before in
      let bound = past.parted_before.bound in
      let same : (k : ℕ) (d : Step) → k < to →
      get_or new k d ≡ get_or mid k d = λ k d l. get_same new mid to k d past.same_before l in
      record {
        bound = past.parted.bound;
        before = λ k d l m. cell_before f _ (Some p) (rw (same k d (omega arith)) (first.parted.before k d l));
        within = λ k d l m.
            covered_cell f p _ (rw (same k d m) (first.parted.from k d l (omega arith))) (past.parted.before k d m);
        past = λ k d l m. cell_past f p _ (past.parted.from k d l m);
      })

  -- the zone covers the steps from where one end was put up to where the other was; an end that there isn't lies
  -- before or past all
  pub split_covered : (first past : Option ℤ) (old mid new : List Step) (from to : ℕ) → IsSplit first 0 old mid from →
      IsSplit past (length mid) mid new to → AreCovered (zone first past) new from to
  split_covered None None old mid new from to one both =
      rw both.1 (record {
        bound = rw both.0 (omega arith);
        before = λ k d l m. absurd (omega (arith, one.0));
        within = λ k d l m. refl;
        past = λ k d l m. absurd (omega (arith, both.0));
      })
  split_covered None (Some p) old mid new from to one both = record {
    bound = both.parted.bound;
    before = λ k d l m. absurd (omega (arith, one.0));
    within = λ k d l m. rw (lt_is (get_or new k d).start p (both.parted.before k d m)) refl;
    past = λ k d l m. rw (not_lt_is (get_or new k d).start p (both.parted.from k d l m)) refl;
  }
  split_covered (Some f) None old mid new from to one both =
      rw both.1 (record {
        bound = rw both.0 (omega arith);
        before = λ k d l m. cell_before f (get_or mid k d).start None (one.parted.before k d l);
        within = λ k d l m. rw (le_is f (get_or mid k d).start (one.parted.from k d l (omega (arith, both.0)))) refl;
        past = λ k d l m. absurd (omega (arith, both.0));
      })
  split_covered (Some f) (Some p) old mid new from to one both = between f p old mid new from to one both
