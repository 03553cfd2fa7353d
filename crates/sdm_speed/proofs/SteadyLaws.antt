-- Speeds that change only where steps start are those of the steps, where each step has the speed at its start.
use Rattle.std.proofs.Common.{◌≡◌, ℕ, zero, suc, ℤ, pos, List, [], ◌∷◌, map, length, get_or, false, inl, inr, ◌<◌}
use Rattle.std.proofs.Common.{◌+ℤ◌, ◌-ℤ◌, ◌≤ℤ◌, ◌<ℤ◌, refl, sym, ap, ◌∙◌, arith}
use Rattle.std.specs.Int.{int_gap}
use Rattle.std.proofs.lemmas.Int.{ints, by_lt_z}
use Rattle.sdm_rules.specs.Profile.{Zone, capped, covers}
use Rattle.sdm_speed.specs.declared.steps.Step.{Step}
use Rattle.sdm_speed.specs.ZoneEnds.{AreSpeedsAt, retaken}
use Rattle.sdm_speed.specs.Steps.{AreAfter, AreRising, IsStart, speeds_of}
use Rattle.sdm_speed.proofs.StepLaws.{first_begun, none_begun, speed_at_start, start_after}
use Rattle.sdm_speed.proofs.ZoneLaws.{int_gap_is, not_capped}

module _ (speed : ℤ → ℕ) where
  -- no change from a cell to a later one
  steady : (a : ℤ) (n : ℕ) → ((c : ℤ) → a <ℤ c → c ≤ℤ (a +ℤ pos n) → speed c ≡ speed (c -ℤ pos 1)) →
      speed (a +ℤ pos n) ≡ speed a
  steady a zero same = ap speed (omega (arith, ints))
  steady a (suc n) same =
      let back : (a +ℤ pos (suc n)) -ℤ pos 1 ≡ a +ℤ pos n = omega (arith, ints) in
      same (a +ℤ pos (suc n)) (omega (arith, ints)) (omega (arith, ints)) ∙ ap speed back
      ∙ steady a n (λ c l m. same c l (omega (arith, ints)))

  -- the same up to a later cell
  steady_to : (a c : ℤ) → a ≤ℤ c → ((d : ℤ) → a <ℤ d → d ≤ℤ c → speed d ≡ speed (d -ℤ pos 1)) → speed c ≡ speed a
  steady_to a c le same =
      let is = int_gap_is a c le in
      ap speed is ∙ steady a (int_gap a c) (λ d l m. same d l (omega (arith, ints, is)))

  -- from a cell on
  from_cell : (a : ℤ) (v : ℕ) (ss : List Step) → AreAfter a ss → v ≡ speed a → AreSpeedsAt speed ss →
      ((d : ℤ) → a <ℤ d → (IsStart d ss → ⊥) → speed d ≡ speed (d -ℤ pos 1)) → (c : ℤ) → a ≤ℤ c →
      speeds_of v ss c ≡ speed c
  from_cell a v [] after is each same c le = is ∙ sym (steady_to a c le (λ d l m. same d l (λ start. start)))
  from_cell a v (s ∷ ss) after is each same c le =
      let first = after.0 in
      by_lt_z c s.start
      (λ (lt : c <ℤ s.start).
      none_begun c v (s ∷ ss) c (lt, after.1) (omega (arith, ints)) ∙ is
      ∙ sym (steady_to a c le (λ d l m. same d l
      (λ start. let past = start_after c d (s ∷ ss) (lt, after.1) start in absurd (omega (arith, ints))))))
      (λ (begun : s.start ≤ℤ c).
      first_begun v s ss c begun
      ∙ from_cell s.start s.speed ss after.1 each.0 each.1 (λ d l off. same d (omega (arith, ints))
      (λ start. elim start [ inl e ↦ absurd (omega (arith, ints)) | inr later ↦ off later ])) c begun)

  -- everywhere
  pub speeds_by_starts : (v : ℕ) (ss : List Step) → AreRising ss → AreSpeedsAt speed ss →
      ((c : ℤ) → AreAfter c ss → speed c ≡ v) → ((c : ℤ) → (IsStart c ss → ⊥) → speed c ≡ speed (c -ℤ pos 1)) →
      (c : ℤ) → speeds_of v ss c ≡ speed c
  speeds_by_starts v [] rising each before same c = sym (before c tt)
  speeds_by_starts v (s ∷ ss) rising each before same c =
      by_lt_z c s.start
      (λ (lt : c <ℤ s.start). none_begun c v (s ∷ ss) c (lt, rising) (omega (arith, ints))
      ∙ sym (before c (lt, rising)))
      (λ (begun : s.start ≤ℤ c).
      first_begun v s ss c begun
      ∙ from_cell s.start s.speed ss rising each.0 each.1 (λ d l off.
      same d (λ start. elim start [ inl e ↦ absurd (omega (arith, ints)) | inr later ↦ off later ])) c begun)

  -- ---- steps that take the speeds at their starts

  -- they have the speeds at their starts
  pub retaken_speeds : (ss : List Step) → AreSpeedsAt speed (map (retaken speed) ss)
  retaken_speeds [] = tt
  retaken_speeds (s ∷ ss) = (refl, retaken_speeds ss)

  -- the starts stay
  pub retaken_starts : (c : ℤ) (ss : List Step) → IsStart c ss → IsStart c (map (retaken speed) ss)
  retaken_starts c [] start = start
  retaken_starts c (s ∷ ss) (inl e) = inl e
  retaken_starts c (s ∷ ss) (inr later) = inr (retaken_starts c ss later)

  -- and no other is there
  pub retaken_only : (c : ℤ) (ss : List Step) → IsStart c (map (retaken speed) ss) → IsStart c ss
  retaken_only c [] start = start
  retaken_only c (s ∷ ss) (inl e) = inl e
  retaken_only c (s ∷ ss) (inr later) = inr (retaken_only c ss later)

  -- where the speeds before were these under one zone more, those of the steps that it does not cover stay
  pub retaken_same : (z : Zone) (v : ℕ) (ss : List Step) (k : ℕ) (d : Step) → AreRising ss →
      ((c : ℤ) → speeds_of v ss c ≡ capped c z (speed c)) → k < length ss → covers (get_or ss k d).start z ≡ false →
      retaken speed (get_or ss k d) ≡ get_or ss k d
  retaken_same z v ss k d rising under known off =
      let s = get_or ss k d in
      let same : speed s.start ≡ s.speed = sym (under s.start ∙ not_capped s.start z (speed s.start) off)
      ∙ speed_at_start v ss k d rising known in
      rw same refl
