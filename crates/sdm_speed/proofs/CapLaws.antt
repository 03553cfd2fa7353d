-- Where the ends of a zone are starts of steps, the zone covers a cell exactly where it covers the start of the step
-- in which the cell lies. So the steps that it covers, with at most its limit, give the lowered speeds.
use Rattle.std.proofs.Common.{◌≡◌, ◌⊎◌, ℕ, zero, suc, ℤ, List, [], ◌∷◌, ◌++◌, length, get_or, set, take, drop, map}
use Rattle.std.proofs.Common.{◌+◌, ◌<◌, ◌≤◌, Option, Some, None, true, false, min, int_le, int_lt, inl, inr, ◌≤ℤ◌}
use Rattle.std.proofs.Common.{◌<ℤ◌, refl, sym, ap, ◌∙◌, arith, length-take, length-drop}
use Rattle.std.specs.Option.{option_map_or}
use Rattle.std.proofs.lemmas.Int.{ints, by_lt_z}
use Rattle.std.proofs.lemmas.List.{get_or-take, get_or-drop, take-append-drop, map-append}
use Rattle.sdm_num.proofs.Comparisons.{le_is, not_le_is, lt_is, not_lt_is}
use Rattle.sdm_rules.specs.Profile.{Zone, capped, covers}
use Rattle.sdm_speed.specs.declared.steps.Step.{Step}
use Rattle.sdm_speed.specs.Steps.{AreAfter, AreRising, IsStart, capped_before, capped_step, speeds_of}
use Rattle.sdm_speed.proofs.StepLaws.{first_begun, none_begun, start_after}

-- the starts stay
cap_after : (z : Zone) (cell : ℤ) (ss : List Step) → AreAfter cell ss → AreAfter cell (map (capped_step z) ss)
cap_after z cell [] after = tt
cap_after z cell (s ∷ ss) after = (after.0, cap_after z s.start ss after.1)

-- ---- from a cell to a later one, with no start between them

-- the cell lies at or before the other, or a step starts there
abbrev IsMet : Option ℤ → ℤ → List Step → Type 0
IsMet cell t ss = (b : ℤ) → cell ≡ Some b → (b ≤ℤ t) ⊎ IsStart b ss

module _ (t c : ℤ) (ss : List Step) (le : t ≤ℤ c) (after : AreAfter c ss) where
  -- the zone has begun at the one cell where it has at the other
  first_same : (first : Option ℤ) → IsMet first t ss →
      option_map_or (λ f. int_le f t) first true ≡ option_map_or (λ f. int_le f c) first true
  first_same None met = refl
  first_same (Some f) met = elim (met f refl) [
    | inl before ↦ rw (le_is f t before, le_is f c (omega (arith, ints))) refl
    | inr start ↦ (let past =
        start_after c f ss after start in rw (not_le_is f t (omega (arith, ints)), not_le_is f c past) refl)
  ]

  -- and it has ended at both or neither
  past_same : (past : Option ℤ) → IsMet past t ss →
      option_map_or (λ p. int_lt t p) past true ≡ option_map_or (λ p. int_lt c p) past true
  past_same None met = refl
  past_same (Some p) met = elim (met p refl) [
    | inl before ↦ rw (not_lt_is t p before, not_lt_is c p (omega (arith, ints))) refl
    | inr start ↦
        (let past = start_after c p ss after start in rw (lt_is t p (omega (arith, ints)), lt_is c p past) refl)
  ]

  -- so it caps a speed alike in both
  capped_same : (z : Zone) (v : ℕ) → IsMet z.first t ss → IsMet z.past t ss → capped t z v ≡ capped c z v
  capped_same z v first past = rw (first_same z.first first, past_same z.past past) refl

-- what is met at a cell is met at the next start
met_on : (cell : Option ℤ) (t : ℤ) (s : Step) (ss : List Step) → t <ℤ s.start → IsMet cell t (s ∷ ss) →
    IsMet cell s.start ss
met_on cell t s ss lt met b is = elim (met b is) [
  | inl before ↦ inl (omega (arith, ints))
  | inr here ↦ elim here [ inl e ↦ inl (rw e (omega (arith, ints))) | inr later ↦ inr later ]
]

-- ---- the speeds

-- from a cell on, whose speed is lowered
capped_from : (z : Zone) (t : ℤ) (v : ℕ) (ss : List Step) (c : ℤ) → AreAfter t ss → IsMet z.first t ss →
    IsMet z.past t ss → t ≤ℤ c → speeds_of (capped t z v) (map (capped_step z) ss) c ≡ capped c z (speeds_of v ss c)
capped_from z t v [] c after first past le = capped_same t c [] le tt z v first past
capped_from z t v (s ∷ ss) c after first past le =
    by_lt_z c s.start
    (λ (lt : c <ℤ s.start).
    let later : AreAfter c (s ∷ ss) = (lt, after.1) in
    none_begun c (capped t z v) (map (capped_step z) (s ∷ ss)) c (cap_after z c (s ∷ ss) later) (omega (arith, ints))
    ∙ capped_same t c (s ∷ ss) le later z v first past
    ∙ ap (capped c z) (sym (none_begun c v (s ∷ ss) c later (omega (arith, ints)))))
    (λ (begun : s.start ≤ℤ c).
    first_begun (capped t z v) (capped_step z s) (map (capped_step z) ss) c begun
    ∙ capped_from z s.start s.speed ss c after.1 (met_on z.first t s ss after.0 first)
    (met_on z.past t s ss after.0 past) begun
    ∙ ap (capped c z) (sym (first_begun v s ss c begun)))

-- before all steps
module _ (limit v : ℕ) (ss : List Step) (c : ℤ) (after : AreAfter c ss) where
  -- there a zone whose ends are starts caps the speed as it does in the cell
  before_is : (first past : Option ℤ) → ((b : ℤ) → first ≡ Some b → IsStart b ss) →
      ((b : ℤ) → past ≡ Some b → IsStart b ss) → capped_before (record { first = first; past = past; limit = limit }) v
      ≡ capped c (record { first = first; past = past; limit = limit }) v
  before_is None None first past = refl
  before_is None (Some p) first past = rw (lt_is c p (start_after c p ss after (past p refl))) refl
  before_is (Some f) past first _ = rw (not_le_is f c (start_after c f ss after (first f refl))) refl

-- the ends of the zone are starts of steps
pub capped_speeds : (z : Zone) (v : ℕ) (ss : List Step) (c : ℤ) → AreRising ss →
    ((b : ℤ) → z.first ≡ Some b → IsStart b ss) → ((b : ℤ) → z.past ≡ Some b → IsStart b ss) →
    speeds_of (capped_before z v) (map (capped_step z) ss) c ≡ capped c z (speeds_of v ss c)
capped_speeds z v [] c rising first past = before_is z.limit v [] c tt z.first z.past first past
capped_speeds z v (s ∷ ss) c rising first past =
    by_lt_z c s.start
    (λ (lt : c <ℤ s.start).
    let later : AreAfter c (s ∷ ss) = (lt, rising) in
    none_begun c (capped_before z v) (map (capped_step z) (s ∷ ss)) c (cap_after z c (s ∷ ss) later)
    (omega (arith, ints))
    ∙ before_is z.limit v (s ∷ ss) c later z.first z.past first past
    ∙ ap (capped c z) (sym (none_begun c v (s ∷ ss) c later (omega (arith, ints)))))
    (λ (begun : s.start ≤ℤ c).
    first_begun (capped_before z v) (capped_step z s) (map (capped_step z) ss) c begun
    ∙ capped_from z s.start s.speed ss c rising (here z.first first) (here z.past past) begun
    ∙ ap (capped c z) (sym (first_begun v s ss c begun)))
  where
    here : (cell : Option ℤ) → ((b : ℤ) → cell ≡ Some b → IsStart b (s ∷ ss)) → IsMet cell s.start ss
    here cell start b is = elim (start b is) [ inl e ↦ inl (rw e (omega (arith, ints))) | inr later ↦ inr later ]

-- ---- the steps that are covered, one after the other

-- a step that is not covered stays
pub stays : (z : Zone) (s : Step) → covers s.start z ≡ false → capped_step z s ≡ s
stays z s apart = rw apart refl

-- one that is covered takes the limit
pub lowered_is : (z : Zone) (s : Step) → covers s.start z ≡ true →
    record { start = s.start; speed = min z.limit s.speed } ≡ capped_step z s
lowered_is z s on = rw on refl

-- what is done to each step, and leaves those as they are that it doesn't mean
module _ (change : Step → Step) where
  -- where no step is meant all stay
  unchanged : (ss : List Step) → ((k : ℕ) (d : Step) → k < length ss → change (get_or ss k d) ≡ get_or ss k d) →
      map change ss ≡ ss
  unchanged [] off = refl
  unchanged (s ∷ ss) off = ap (λ (x : Step). x ∷ map change ss) (off 0 s (omega arith))
      ∙ ap (λ (xs : List Step). s ∷ xs) (unchanged ss (λ k d l. off (suc k) d (omega arith)))

  module _ (ss : List Step) (i : ℕ) where
    -- those before the first that is meant
    pub prefix_stays : ((k : ℕ) (d : Step) → k < i → k < length ss → change (get_or ss k d) ≡ get_or ss k d) →
        map change (take i ss) ++ drop i ss ≡ ss
    prefix_stays off =
        ap (λ (prefix : List Step). prefix ++ drop i ss) (unchanged (take i ss)
        (λ k d l. let known : k < i = omega (arith, length-take i ss)
        in rw (get_or-take i ss k d known) (off k d known (omega (arith, length-take i ss)))))
        ∙ take-append-drop i ss

    -- those past the last that is meant
    pub rest_stays : ((k : ℕ) (d : Step) → i ≤ k → k < length ss → change (get_or ss k d) ≡ get_or ss k d) →
        map change (take i ss) ++ drop i ss ≡ map change ss
    rest_stays off =
        ap (λ (rest : List Step). map change (take i ss) ++ rest)
        (sym (unchanged (drop i ss) (λ k d l.
        rw (get_or-drop i ss k d) (off (i + k) d (omega arith) (omega (arith, length-drop i ss))))))
        ∙ sym (map-append change (take i ss) (drop i ss))
        ∙ ap (map change) (take-append-drop i ss)

  -- of the steps the first `i` are changed, and then the next one is
  pub one_more : (ss : List Step) (i : ℕ) (d : Step) → i < length ss → set (map change (take i ss) ++ drop i ss) i
      (change (get_or ss i d)) ≡ map change (take (suc i) ss) ++ drop (suc i) ss
  one_more [] i d known = absurd (omega arith)
  one_more (s ∷ ss) zero d known = refl
  one_more (s ∷ ss) (suc i) d known = ap (λ (rest : List Step). change s ∷ rest) (one_more ss i d (omega arith))

  -- the next step is as it was
  pub not_yet : (ss : List Step) (i : ℕ) (d : Step) → i < length ss →
      get_or (map change (take i ss) ++ drop i ss) i d ≡ get_or ss i d
  not_yet [] i d known = absurd (omega arith)
  not_yet (s ∷ ss) zero d known = refl
  not_yet (s ∷ ss) (suc i) d known = not_yet ss i d (omega arith)

-- ---- starts

-- the starts stay
pub cap_starts : (z : Zone) (c : ℤ) (ss : List Step) → IsStart c ss → IsStart c (map (capped_step z) ss)
cap_starts z c [] start = start
cap_starts z c (s ∷ ss) (inl e) = inl e
cap_starts z c (s ∷ ss) (inr later) = inr (cap_starts z c ss later)

-- and no other is there
pub cap_only : (z : Zone) (c : ℤ) (ss : List Step) → IsStart c (map (capped_step z) ss) → IsStart c ss
cap_only z c [] start = start
cap_only z c (s ∷ ss) (inl e) = inl e
cap_only z c (s ∷ ss) (inr later) = inr (cap_only z c ss later)
