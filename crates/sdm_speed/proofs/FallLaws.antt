-- A profile of steps falls only where a step starts that is lower than the speed before it.
use Rattle.std.proofs.Common.{◌≡◌, ℕ, ℤ, pos, List, [], ◌∷◌, Option, Some, None, Bool, true, false, nat_lt}
use Rattle.std.proofs.Common.{if◌then◌else◌, ◌<◌, ◌≤◌, ◌-ℤ◌, ◌≤ℤ◌, ◌<ℤ◌, refl, sym, ◌∙◌, arith}
use Rattle.std.proofs.lemmas.Int.{ints, by_lt_z}
use Rattle.std.proofs.lemmas.Bool.{le-ltb, lt-ltb, ltb-false, ltb-true}
use Rattle.sdm_rules.specs.declared.targets.Fall.{Fall}
use Rattle.sdm_rules.specs.Targets.{is_fall, IsNextFall}
use Rattle.sdm_speed.specs.declared.steps.Step.{Step}
use Rattle.sdm_speed.specs.Steps.{AreAfter, IsFallAfter, speeds_of}
use Rattle.sdm_speed.proofs.StepLaws.{first_begun, none_begun}

-- the first of the steps that is lower than the speed before it
abbrev pub first_fall : ℕ → List Step → Option Fall
first_fall v [] = None
first_fall v (s ∷ ss) = let next =
    first_fall s.speed ss in if nat_lt s.speed v then Some (record { cell = s.start; speed = s.speed }) else next

-- a first step that is lower is the first fall
pub falls_first : (v : ℕ) (s : Step) (ss : List Step) → s.speed < v →
    first_fall v (s ∷ ss) ≡ Some (record { cell = s.start; speed = s.speed })
falls_first v s ss lt = rw (lt-ltb s.speed v lt) refl

-- else the fall is among the later ones
pub falls_later : (v : ℕ) (s : Step) (ss : List Step) → v ≤ s.speed → first_fall v (s ∷ ss) ≡ first_fall s.speed ss
falls_later v s ss le = rw (le-ltb s.speed v le) refl

-- no fall past the cell up to a later one
abbrev pub IsQuiet : (ℤ → ℕ) → ℤ → ℤ → Type 0
IsQuiet profile after at = (c : ℤ) → after <ℤ c → c ≤ℤ at → is_fall profile c ≡ false

-- what is past a quiet stretch of one profile is past its beginning in another, which is the same from there on
pub fall_past : (f g : ℤ → ℕ) (after at : ℤ) (next : Option Fall) → after ≤ℤ at → IsQuiet f after at →
    ((c : ℤ) → at ≤ℤ c → f c ≡ g c) → IsFallAfter g at next → IsFallAfter f after next
fall_past f g after at None le quiet same h = λ c a.
    by_lt_z at c
    (λ (l : at <ℤ c). rw (same c (omega (arith, ints)), same (c -ℤ pos 1) (omega (arith, ints))) (h c l))
    (λ (m : c ≤ℤ at). quiet c a m)
fall_past f g after at (Some fall) le quiet same h =
    let beyond = h.beyond in
    record {
      beyond = omega (arith, ints);
      falls = rw (same fall.cell (omega (arith, ints)), same (fall.cell -ℤ pos 1) (omega (arith, ints))) h.falls;
      lower = rw (same fall.cell (omega (arith, ints))) h.lower;
      first = λ c a l.
          by_lt_z at c
          (λ (m : at <ℤ c). rw (same c (omega (arith, ints)), same (c -ℤ pos 1) (omega (arith, ints))) (h.first c m l))
          (λ (m : c ≤ℤ at). quiet c a m);
    }

module _ (v : ℕ) (s : Step) (ss : List Step) (after : ℤ) (past : after <ℤ s.start) (later : AreAfter s.start ss) where
  -- the speeds before the first step and from it on
  abbrev profile : ℤ → ℕ
  profile = speeds_of v (s ∷ ss)

  -- up to the first step the speed is that before it
  up_to : (c : ℤ) → c <ℤ s.start → profile c ≡ v
  up_to c lt = none_begun c v (s ∷ ss) c (lt, later) (omega (arith, ints))

  -- from there on it is that of the step and the later ones
  from : (c : ℤ) → s.start ≤ℤ c → profile c ≡ speeds_of s.speed ss c
  from c le = first_begun v s ss c le

  -- where the step starts it is the step's
  at_start : profile s.start ≡ s.speed
  at_start = from s.start (omega (arith, ints)) ∙ none_begun s.start s.speed ss s.start later (omega (arith, ints))

  -- no fall before the step
  quiet_before : (c : ℤ) → c <ℤ s.start → is_fall profile c ≡ false
  quiet_before c lt = rw (up_to c lt, up_to (c -ℤ pos 1) (omega (arith, ints))) (le-ltb v v (omega arith))

  -- a lower step is the next fall
  falls_here : s.speed < v → IsNextFall profile after (record { cell = s.start; speed = s.speed })
  falls_here lt = record {
    beyond = past;
    falls = rw (at_start, up_to (s.start -ℤ pos 1) (omega (arith, ints))) (lt-ltb s.speed v lt);
    lower = sym at_start;
    first = λ c a l. quiet_before c l;
  }

  -- where the step is no lower, no fall up to it
  quiet_up_to : v ≤ s.speed → IsQuiet profile after s.start
  quiet_up_to le c a l =
      by_lt_z c s.start
      (λ (lt : c <ℤ s.start). quiet_before c lt)
      (λ (ge : s.start ≤ℤ c). let e : c ≡ s.start = omega (arith, ints)
      in rw (e, at_start, up_to (s.start -ℤ pos 1) (omega (arith, ints))) (le-ltb s.speed v le))

  -- so the next fall is at the step or among the later ones
  by_speed : (b : Bool) → nat_lt s.speed v ≡ b → IsFallAfter (speeds_of s.speed ss) s.start (first_fall s.speed ss) →
      IsFallAfter profile after
      (if b then Some (record { cell = s.start; speed = s.speed }) else first_fall s.speed ss)
  by_speed true is rest = falls_here (ltb-true s.speed v is)
  by_speed false is rest = fall_past profile (speeds_of s.speed ss) after s.start (first_fall s.speed ss)
      (omega (arith, ints)) (quiet_up_to (ltb-false s.speed v is)) from rest

-- it is the next fall past a cell before them all
pub first_fall_is : (v : ℕ) (ss : List Step) (after : ℤ) → AreAfter after ss →
    IsFallAfter (speeds_of v ss) after (first_fall v ss)
first_fall_is v [] after h = λ c a. le-ltb v v (omega arith)
first_fall_is v (s ∷ ss) after h =
    by_speed v s ss after h.0 h.1 (nat_lt s.speed v) refl (first_fall_is s.speed ss s.start h.1)

-- a profile that is the same from a cell on falls next where this one does
pub fall_from : (f g : ℤ → ℕ) (after : ℤ) (next : Option Fall) → ((c : ℤ) → after ≤ℤ c → f c ≡ g c) →
    IsFallAfter g after next → IsFallAfter f after next
fall_from f g after next same h =
    fall_past f g after after next (omega (arith, ints)) (λ c a l. absurd (omega (arith, ints))) same h
