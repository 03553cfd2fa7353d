-- A step that is taken out leaves the others as they were, and since each start is that of one step, none starts there
-- any more.
use Rattle.std.proofs.Common.{◌≡◌, ◌⊎◌, ℕ, zero, suc, ℤ, List, [], ◌∷◌, length, get_or, inl, inr, ◌<◌, sym, arith}
use Rattle.std.specs.List.{remove}
use Rattle.std.proofs.lemmas.Int.{ints}
use Rattle.sdm_speed.specs.declared.steps.Step.{Step}
use Rattle.sdm_speed.specs.ZoneEnds.{AreSpeedsAt}
use Rattle.sdm_speed.specs.Steps.{AreAfter, AreRising, IsStart}
use Rattle.sdm_speed.proofs.StepLaws.{after_all, after_earlier, rising_of, start_after}

-- what starts past a cell still does
remove_after : (cell : ℤ) (ss : List Step) (i : ℕ) → AreAfter cell ss → AreAfter cell (remove ss i)
remove_after cell [] zero after = tt
remove_after cell [] (suc i) after = tt
remove_after cell (s ∷ ss) zero after = let past =
    after.0 in after_earlier s.start cell ss after.1 (omega (arith, ints))
remove_after cell (s ∷ ss) (suc i) after = (after.0, remove_after s.start ss i after.1)

-- starts that rise still do
pub remove_rising : (ss : List Step) (i : ℕ) → AreRising ss → AreRising (remove ss i)
remove_rising [] zero rising = tt
remove_rising [] (suc i) rising = tt
remove_rising (s ∷ ss) zero rising = rising_of s.start ss rising
remove_rising (s ∷ ss) (suc i) rising = remove_after s.start ss i rising

-- each keeps its speed
pub remove_speeds : (speed : ℤ → ℕ) (ss : List Step) (i : ℕ) → AreSpeedsAt speed ss → AreSpeedsAt speed (remove ss i)
remove_speeds speed [] zero each = tt
remove_speeds speed [] (suc i) each = tt
remove_speeds speed (s ∷ ss) zero each = each.1
remove_speeds speed (s ∷ ss) (suc i) each = (each.0, remove_speeds speed ss i each.1)

-- no start is new
pub remove_fewer : (c : ℤ) (ss : List Step) (i : ℕ) → IsStart c (remove ss i) → IsStart c ss
remove_fewer c [] zero start = absurd start
remove_fewer c [] (suc i) start = absurd start
remove_fewer c (s ∷ ss) zero start = inr start
remove_fewer c (s ∷ ss) (suc i) (inl e) = inl e
remove_fewer c (s ∷ ss) (suc i) (inr later) = inr (remove_fewer c ss i later)

-- its own start is gone
pub remove_gone : (ss : List Step) (i : ℕ) (d : Step) → AreRising ss → i < length ss →
    IsStart (get_or ss i d).start (remove ss i) → ⊥
remove_gone [] i d rising known start = absurd (omega arith)
remove_gone (s ∷ ss) zero d rising known start = let past =
    start_after s.start s.start ss rising start in absurd (omega (arith, ints))
remove_gone (s ∷ ss) (suc i) d rising known (inl e) = let past =
    after_all s.start ss i d rising (omega arith) in absurd (omega (arith, ints))
remove_gone (s ∷ ss) (suc i) d rising known (inr later) =
    remove_gone ss i d (rising_of s.start ss rising) (omega arith) later

-- every other start is left
pub remove_others : (c : ℤ) (ss : List Step) (i : ℕ) (d : Step) → IsStart c ss →
    (c ≡ (get_or ss i d).start) ⊎ IsStart c (remove ss i)
remove_others c [] i d start = absurd start
remove_others c (s ∷ ss) zero d (inl e) = inl (sym e)
remove_others c (s ∷ ss) zero d (inr later) = inr later
remove_others c (s ∷ ss) (suc i) d (inl e) = inr (inl e)
remove_others c (s ∷ ss) (suc i) d (inr later) = elim (remove_others c ss i d later) [
  | inl e ↦ inl e
  | inr rest ↦ inr (inr rest)
]
