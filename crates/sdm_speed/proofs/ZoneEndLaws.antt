-- The speeds under restrictions change only at ends of zones, and steps that start at these are no more than they.
use Rattle.std.proofs.Common.{◌≡◌, ◌⊎◌, ℕ, zero, suc, ℤ, pos, List, [], ◌∷◌, ◌++◌, Some, map, length, get_or, Bool}
use Rattle.std.proofs.Common.{int_le, int_lt, min, if◌then◌else◌, inl, inr, ◌+◌, ◌*◌, ◌<◌, ◌≤◌, ◌-ℤ◌, ◌≤ℤ◌, ◌<ℤ◌, refl}
use Rattle.std.proofs.Common.{sym, ap, ◌∙◌, arith}
use Rattle.std.specs.List.{remove}
use Rattle.std.proofs.lemmas.Int.{ints, by_lt_z}
use Rattle.sdm_num.proofs.Comparisons.{le_is, not_le_is, lt_is, not_lt_is}
use Rattle.sdm_rules.specs.declared.restrictions.Restriction.{Restriction}
use Rattle.sdm_rules.specs.Profile.{capped, covers, end_for, lowest_limit, zone_of}
use Rattle.sdm_speed.specs.declared.steps.Step.{Step}
use Rattle.sdm_speed.specs.ZoneEnds.{AreAtZoneEnds, HasStartsOf, IsZoneEnd, IsEnd, IsEndOfOne, speed_under}
use Rattle.sdm_speed.specs.Steps.{AreAfter, AreRising, IsStart, speeds_of}
use Rattle.sdm_speed.proofs.StepLaws.{none_begun}
use Rattle.sdm_speed.proofs.ZoneLaws.{capped_in_any_order}

-- ---- the ends of restrictions

module _ (length_cm c : ℤ) where
  -- an end of one at an index is an end of one of them
  pub end_at : (rs : List Restriction) (i : ℕ) (d : Restriction) → i < length rs → IsEnd length_cm c (get_or rs i d) →
      IsEndOfOne length_cm c rs
  end_at [] i d known end = absurd (omega arith)
  end_at (r ∷ rs) zero d known end = inl end
  end_at (r ∷ rs) (suc i) d known end = inr (end_at rs i d (omega arith) end)

  -- one restriction more at the end
  pub end_more : (rs : List Restriction) (r : Restriction) → IsEndOfOne length_cm c rs ⊎ IsEnd length_cm c r →
      IsEndOfOne length_cm c (rs ++ r ∷ [])
  end_more [] r (inl none) = absurd none
  end_more [] r (inr end) = inl end
  end_more (x ∷ xs) r (inl (inl end)) = inl end
  end_more (x ∷ xs) r (inl (inr later)) = inr (end_more xs r (inl later))
  end_more (x ∷ xs) r (inr end) = inr (end_more xs r (inr end))

  -- and back: an end of one of them is of the last or of one before it
  pub end_of_more : (rs : List Restriction) (r : Restriction) → IsEndOfOne length_cm c (rs ++ r ∷ []) →
      IsEndOfOne length_cm c rs ⊎ IsEnd length_cm c r
  end_of_more [] r (inl end) = inr end
  end_of_more [] r (inr none) = absurd none
  end_of_more (x ∷ xs) r (inl end) = inl (inl end)
  end_of_more (x ∷ xs) r (inr later) = elim (end_of_more xs r later) [ inl one ↦ inl (inr one) | inr end ↦ inr end ]

  -- one restriction less
  pub end_among : (rs : List Restriction) (i : ℕ) → IsEndOfOne length_cm c (remove rs i) → IsEndOfOne length_cm c rs
  end_among [] zero end = absurd end
  end_among [] (suc i) end = absurd end
  end_among (r ∷ rs) zero end = inr end
  end_among (r ∷ rs) (suc i) (inl end) = inl end
  end_among (r ∷ rs) (suc i) (inr later) = inr (end_among rs i later)

  -- an end of one of them is of the one that is taken out or of one that is left
  pub end_less : (rs : List Restriction) (i : ℕ) (d : Restriction) → IsEndOfOne length_cm c rs →
      IsEndOfOne length_cm c (remove rs i) ⊎ IsEnd length_cm c (get_or rs i d)
  end_less [] i d end = absurd end
  end_less (r ∷ rs) zero d (inl end) = inr end
  end_less (r ∷ rs) zero d (inr later) = inl later
  end_less (r ∷ rs) (suc i) d (inl end) = inl (inl end)
  end_less (r ∷ rs) (suc i) d (inr later) = elim (end_less rs i d later) [ inl one ↦ inl (inr one) | inr end ↦ inr end ]

-- the one that is taken out lowers the limit of those that are left
pub limit_less : (n : ℕ) (c length_cm : ℤ) (rs : List Restriction) (i : ℕ) (d : Restriction) → i < length rs →
    lowest_limit n c (map (zone_of length_cm) rs)
    ≡ capped c (zone_of length_cm (get_or rs i d)) (lowest_limit n c (map (zone_of length_cm) (remove rs i)))
limit_less n c length_cm [] i d known = absurd (omega arith)
limit_less n c length_cm (r ∷ rs) zero d known = refl
limit_less n c length_cm (r ∷ rs) (suc i) d known =
    ap (capped c (zone_of length_cm r)) (limit_less n c length_cm rs i d (omega arith))
    ∙ capped_in_any_order c (zone_of length_cm r) (zone_of length_cm (get_or rs i d))
    (lowest_limit n c (map (zone_of length_cm) (remove rs i)))

-- ---- steps that start at the ends of zones

-- with no restriction the steps are the static ones
pub zone_ends_none : (length_cm : ℤ) (statics : List Step) → AreAtZoneEnds length_cm statics [] statics
zone_ends_none length_cm statics = record {
  each = λ c zone_end. elim zone_end [ inl start ↦ start | inr none ↦ absurd none ];
  no_other = λ c start. inl start;
}

-- with the starts of one more zone they are at its ends too
pub zone_ends_more : (length_cm : ℤ) (statics : List Step) (held : List Restriction) (r : Restriction)
    (old new : List Step) → AreAtZoneEnds length_cm statics held old → HasStartsOf (zone_of length_cm r) old new →
    AreAtZoneEnds length_cm statics (held ++ r ∷ []) new
zone_ends_more length_cm statics held r old new at starts = record {
  each = λ c zone_end. elim zone_end [
    | inl start ↦ starts.kept c (at.each c (inl start))
    | inr end ↦ elim (end_of_more length_cm c held r end) [
      | inl one ↦ starts.kept c (at.each c (inr one))
      | inr here ↦ elim here [ inl e ↦ starts.first c (ap Some e) | inr e ↦ starts.past c (ap Some e) ]
    ]
  ];
  no_other = λ c start. elim (starts.only c start) [
    | inl is ↦ (let e : pos r.start ≡ c = cc in inr (end_more length_cm c held r (inr (inl e))))
    | inr rest ↦ elim rest [
      | inl is ↦
          (let e : end_for length_cm r.delayed (pos r.end) ≡ c = cc in inr (end_more length_cm c held r (inr (inr e))))
      | inr before ↦ elim (at.no_other c before) [
        | inl static ↦ inl static
        | inr one ↦ inr (end_more length_cm c held r (inl one))
      ]
    ]
  ];
}

module _ (length_cm : ℤ) (statics : List Step) (held : List Restriction) (i : ℕ) (steps : List Step)
    (at : AreAtZoneEnds length_cm statics held steps) (c : ℤ) where
  -- what is left when a restriction is taken out
  pub each_left : IsZoneEnd length_cm statics (remove held i) c → IsStart c steps
  each_left zone_end = elim zone_end [
    | inl static ↦ at.each c (inl static)
    | inr end ↦ at.each c (inr (end_among length_cm c held i end))
  ]

  -- a start that is no end of those is an end of the one that is taken out
  pub no_other_left : (d : Restriction) → IsStart c steps →
      IsZoneEnd length_cm statics (remove held i) c ⊎ IsEnd length_cm c (get_or held i d)
  no_other_left d start = elim (at.no_other c start) [
    | inl static ↦ inl (inl static)
    | inr end ↦ elim (end_less length_cm c held i d end) [ inl one ↦ inl (inr one) | inr here ↦ inr here ]
  ]

-- ---- from a cell to the next one

-- a start has begun at a cell exactly where it had at the cell before, unless it is the cell itself
le_same : (b c : ℤ) → (b ≡ c → ⊥) → int_le b c ≡ int_le b (c -ℤ pos 1)
le_same b c apart =
    by_lt_z b c
    (λ (lt : b <ℤ c). le_is b c (omega (arith, ints)) ∙ sym (le_is b (c -ℤ pos 1) (omega (arith, ints))))
    (λ (ge : c ≤ℤ b). by_lt_z c b
    (λ (lt : c <ℤ b). not_le_is b c lt ∙ sym (not_le_is b (c -ℤ pos 1) (omega (arith, ints))))
    (λ (le : b ≤ℤ c). absurd (apart (omega (arith, ints)))))

-- an end lies past a cell exactly where it lies past the cell before, unless it is the cell itself
lt_same : (p c : ℤ) → (p ≡ c → ⊥) → int_lt c p ≡ int_lt (c -ℤ pos 1) p
lt_same p c apart =
    by_lt_z c p
    (λ (lt : c <ℤ p). lt_is c p lt ∙ sym (lt_is (c -ℤ pos 1) p (omega (arith, ints))))
    (λ (ge : p ≤ℤ c). by_lt_z p c
    (λ (lt : p <ℤ c). not_lt_is c p ge ∙ sym (not_lt_is (c -ℤ pos 1) p (omega (arith, ints))))
    (λ (le : c ≤ℤ p). absurd (apart (omega (arith, ints)))))

-- where no step starts the speed is that of the cell before
starts_same : (v : ℕ) (ss : List Step) (c : ℤ) → (IsStart c ss → ⊥) → speeds_of v ss c ≡ speeds_of v ss (c -ℤ pos 1)
starts_same v [] c off = refl
starts_same v (s ∷ ss) c off =
    ap (λ b. speeds_of (if b then s.speed else v) ss c) (le_same s.start c (λ e. off (inl e)))
    ∙ starts_same (if int_le s.start (c -ℤ pos 1) then s.speed else v) ss c (λ later. off (inr later))

-- a cap is the same where its test and what it caps are
capped_same : (a b : Bool) (k m n : ℕ) → a ≡ b → m ≡ n → (if a then min k m else m) ≡ (if b then min k n else n)
capped_same a b k m n same rest = rw (same, rest) refl

-- where a restriction has no end it covers both cells or neither
covers_same : (length_cm c : ℤ) (r : Restriction) → (IsEnd length_cm c r → ⊥) →
    covers c (zone_of length_cm r) ≡ covers (c -ℤ pos 1) (zone_of length_cm r)
covers_same length_cm c r off = rw (
  le_same (pos r.start) c (λ e. off (inl e)),
  lt_same (end_for length_cm r.delayed (pos r.end)) c (λ e. off (inr e)),
) refl

-- where none has an end the lowest limit is that of the cell before
ends_same : (length_cm : ℤ) (n : ℕ) (rs : List Restriction) (c : ℤ) → (IsEndOfOne length_cm c rs → ⊥) →
    lowest_limit n c (map (zone_of length_cm) rs) ≡ lowest_limit n (c -ℤ pos 1) (map (zone_of length_cm) rs)
ends_same length_cm n [] c off = refl
ends_same length_cm n (r ∷ rs) c off =
    capped_same (covers c (zone_of length_cm r)) (covers (c -ℤ pos 1) (zone_of length_cm r)) r.speed _ _
    (covers_same length_cm c r (λ end. off (inl end))) (ends_same length_cm n rs c (λ later. off (inr later)))

-- before all ends no restriction lowers the limit
limit_before : (length_cm : ℤ) (n : ℕ) (rs : List Restriction) (c : ℤ) →
    ((b : ℤ) → IsEndOfOne length_cm b rs → c <ℤ b) → lowest_limit n c (map (zone_of length_cm) rs) ≡ n
limit_before length_cm n [] c past = refl
limit_before length_cm n (r ∷ rs) c past = rw (not_le_is (pos r.start) c (past (pos r.start) (inl (inl refl))))
    (limit_before length_cm n rs c (λ b later. past b (inr later)))

-- steps that rise and whose starts lie past a cell are past it
after_all_starts : (c : ℤ) (ss : List Step) → AreRising ss → ((b : ℤ) → IsStart b ss → c <ℤ b) → AreAfter c ss
after_all_starts c [] rising past = tt
after_all_starts c (s ∷ ss) rising past = (past s.start (inl refl), rising)

-- each start of steps past a cell lies past it
start_past : (c b : ℤ) (ss : List Step) → AreAfter c ss → IsStart b ss → c <ℤ b
start_past c b [] after start = absurd start
start_past c b (s ∷ ss) after (inl e) = let first = after.0 in omega (arith, ints)
start_past c b (s ∷ ss) after (inr later) = let first = after.0 in let rest =
    start_past s.start b ss after.1 later in omega (arith, ints)

module _ (length_cm : ℤ) (v : ℕ) (statics : List Step) (held : List Restriction) where
  -- no end of a zone, no change
  pub under_same : (c : ℤ) → (IsZoneEnd length_cm statics held c → ⊥) →
      speed_under length_cm v statics held c ≡ speed_under length_cm v statics held (c -ℤ pos 1)
  under_same c off =
      ap (λ n. lowest_limit n c (map (zone_of length_cm) held)) (starts_same v statics c (λ start. off (inl start)))
      ∙ ends_same length_cm (speeds_of v statics (c -ℤ pos 1)) held c (λ end. off (inr end))

  -- before all ends of zones
  pub under_before : (c : ℤ) (ss : List Step) → AreRising statics →
      ((b : ℤ) → IsZoneEnd length_cm statics held b → IsStart b ss) → AreAfter c ss →
      speed_under length_cm v statics held c ≡ v
  under_before c ss rising each after =
      ap (λ n. lowest_limit n c (map (zone_of length_cm) held))
      (none_begun c v statics c (after_all_starts c statics rising
      (λ b start. start_past c b ss after (each b (inl start)))) (omega (arith, ints)))
      ∙ limit_before length_cm v held c (λ b end. start_past c b ss after (each b (inr end)))

-- ---- how many

-- 1 where `b` lies at or before `at`, else 0
abbrev begun : ℤ → ℤ → ℕ
begun b at = if int_le b at then 1 else 0

begun_most : (b at : ℤ) → begun b at ≤ 1
begun_most b at = by_lt_z at b (λ (l : at <ℤ b). rw (not_le_is b at l) (omega arith))
    (λ (g : b ≤ℤ at). rw (le_is b at g) (omega arith))

-- no less at a later cell
begun_rises : (b at c : ℤ) → at ≤ℤ c → begun b at ≤ begun b c
begun_rises b at c le =
    by_lt_z at b
    (λ (l : at <ℤ b). rw (not_le_is b at l) (omega arith))
    (λ (g : b ≤ℤ at). rw (le_is b at g, le_is b c (omega (arith, ints))) (omega arith))

-- one more at `b` itself than before it
begun_here : (b at c : ℤ) → at <ℤ c → b ≡ c → begun b at + 1 ≤ begun b c
begun_here b at c lt same = rw (not_le_is b at (omega (arith, ints)), le_is b c (omega (arith, ints))) (omega arith)

-- how many steps start up to a cell
passed_steps : List Step → ℤ → ℕ
passed_steps [] at = 0
passed_steps (s ∷ ss) at = begun s.start at + passed_steps ss at

steps_most : (ss : List Step) (at : ℤ) → passed_steps ss at ≤ length ss
unfolding passed_steps
steps_most [] at = omega arith
steps_most (s ∷ ss) at = omega (arith, begun_most s.start at, steps_most ss at)

-- no fewer up to a later cell
steps_rise : (ss : List Step) (at c : ℤ) → at ≤ℤ c → passed_steps ss at ≤ passed_steps ss c
unfolding passed_steps
steps_rise [] at c le = omega arith
steps_rise (s ∷ ss) at c le = omega (arith, begun_rises s.start at c le, steps_rise ss at c le)

-- and more where one starts there
steps_more : (ss : List Step) (at c : ℤ) → at <ℤ c → IsStart c ss → passed_steps ss at + 1 ≤ passed_steps ss c
unfolding passed_steps
steps_more [] at c lt start = absurd start
steps_more (s ∷ ss) at c lt (inl e) =
    omega (arith, begun_here s.start at c lt e, steps_rise ss at c (omega (arith, ints)))
steps_more (s ∷ ss) at c lt (inr later) =
    omega (arith, begun_rises s.start at c (omega (arith, ints)), steps_more ss at c lt later)

module _ (length_cm : ℤ) where
  -- the end of a restriction's zone, with the train length where it is delayed
  abbrev past_of : Restriction → ℤ
  past_of r = end_for length_cm r.delayed (pos r.end)

  -- how many ends of zones lie up to a cell
  passed_ends : List Restriction → ℤ → ℕ
  passed_ends [] at = 0
  passed_ends (r ∷ rs) at = (begun (pos r.start) at + begun (past_of r) at) + passed_ends rs at

  ends_most : (rs : List Restriction) (at : ℤ) → passed_ends rs at ≤ 2 * length rs
  unfolding passed_ends
  ends_most [] at = omega arith
  ends_most (r ∷ rs) at = omega (arith, begun_most (pos r.start) at, begun_most (past_of r) at, ends_most rs at)

  -- no fewer up to a later cell
  ends_rise : (rs : List Restriction) (at c : ℤ) → at ≤ℤ c → passed_ends rs at ≤ passed_ends rs c
  unfolding passed_ends
  ends_rise [] at c le = omega arith
  ends_rise (r ∷ rs) at c le =
      omega (arith, begun_rises (pos r.start) at c le, begun_rises (past_of r) at c le, ends_rise rs at c le)

  -- and more where one lies there
  ends_more : (rs : List Restriction) (at c : ℤ) → at <ℤ c → IsEndOfOne length_cm c rs →
      passed_ends rs at + 1 ≤ passed_ends rs c
  unfolding passed_ends
  ends_more [] at c lt end = absurd end
  ends_more (r ∷ rs) at c lt (inl (inl e)) =
      let le : at ≤ℤ c = omega (arith, ints) in
      omega (arith, begun_here (pos r.start) at c lt e, begun_rises (past_of r) at c le, ends_rise rs at c le)
  ends_more (r ∷ rs) at c lt (inl (inr e)) =
      let le : at ≤ℤ c = omega (arith, ints) in
      omega (arith, begun_rises (pos r.start) at c le, begun_here (past_of r) at c lt e, ends_rise rs at c le)
  ends_more (r ∷ rs) at c lt (inr later) =
      let le : at ≤ℤ c = omega (arith, ints) in
      omega (arith, begun_rises (pos r.start) at c le, begun_rises (past_of r) at c le, ends_more rs at c lt later)

  module _ (statics : List Step) (held : List Restriction) where
    -- at an end of a zone the two counts together are more
    one_more : (at c : ℤ) → at <ℤ c → IsZoneEnd length_cm statics held c →
        (passed_steps statics at + passed_ends held at) + 1 ≤ passed_steps statics c + passed_ends held c
    one_more at c lt (inl start) =
        omega (arith, steps_more statics at c lt start, ends_rise held at c (omega (arith, ints)))
    one_more at c lt (inr end) =
        omega (arith, steps_rise statics at c (omega (arith, ints)), ends_more held at c lt end)

    -- past a cell there are no more starts than ends of zones that lie past it
    few_after : (at : ℤ) (ss : List Step) → AreAfter at ss →
        ((c : ℤ) → IsStart c ss → IsZoneEnd length_cm statics held c) →
        length ss + (passed_steps statics at + passed_ends held at) ≤ length statics + 2 * length held
    few_after at [] after no_other = omega (arith, steps_most statics at, ends_most held at)
    few_after at (s ∷ ss) after no_other =
        let here = one_more at s.start after.0 (no_other s.start (inl refl)) in
        let rest = few_after s.start ss after.1 (λ c later. no_other c (inr later)) in
        omega (arith, here, rest)

    -- each start is another end of a zone
    pub few_starts : (ss : List Step) → AreRising ss → AreAtZoneEnds length_cm statics held ss →
        length ss ≤ length statics + 2 * length held
    few_starts [] rising zone_ends = omega arith
    few_starts (s ∷ ss) rising zone_ends =
        let few = few_after (s.start -ℤ pos 1) (s ∷ ss) (omega (arith, ints), rising) zone_ends.no_other
        in omega (arith, few)
