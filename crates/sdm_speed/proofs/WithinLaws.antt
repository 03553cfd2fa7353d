-- Where the speeds before were those that are left under one zone more, only the steps in that zone have to take them.
use Rattle.std.proofs.Common.{◌≡◌, ℕ, suc, ℤ, List, [], ◌∷◌, length, get_or, map, Bool, true, false, ◌<◌, refl, sym, ap}
use Rattle.std.proofs.Common.{if◌then◌else◌, ◌∙◌, arith}
use Rattle.sdm_rules.specs.Profile.{Zone, capped, covers}
use Rattle.sdm_speed.specs.declared.steps.Step.{Step}
use Rattle.sdm_speed.specs.Steps.{AreRising, speeds_of}
use Rattle.sdm_speed.specs.ZoneEnds.{retaken}
use Rattle.sdm_speed.proofs.SteadyLaws.{retaken_same}

-- the step, changed where the zone covers its start
abbrev pub within : Zone → (Step → Step) → Step → Step
within z change s = if covers s.start z then change s else s

-- ---- one step in a zone

module _ (l : Zone) where
  -- a step that the zone doesn't cover stays
  pub off_stays : (change : Step → Step) (s : Step) → covers s.start l ≡ false → within l change s ≡ s
  off_stays change s off = rw off refl

  -- one that it covers is changed
  pub on_changes : (change : Step → Step) (s : Step) → covers s.start l ≡ true → within l change s ≡ change s
  on_changes change s on = rw on refl

  -- where a step that isn't covered has the speed already, each takes it
  taken_everywhere : (speed : ℤ → ℕ) (s : Step) (on : Bool) → covers s.start l ≡ on →
      (covers s.start l ≡ false → retaken speed s ≡ s) → within l (retaken speed) s ≡ retaken speed s
  taken_everywhere speed s true is same = on_changes (retaken speed) s is
  taken_everywhere speed s false is same = off_stays (retaken speed) s is ∙ sym (same is)

-- ---- lists of steps

-- two changes that make the same of each step
alike : (f g : Step → Step) (ss : List Step) → ((k : ℕ) (d : Step) → k < length ss →
    f (get_or ss k d) ≡ g (get_or ss k d)) → map f ss ≡ map g ss
alike f g [] same = refl
alike f g (s ∷ ss) same = ap (λ (x : Step). x ∷ map f ss) (same 0 s (omega arith))
    ∙ ap (λ (xs : List Step). g s ∷ xs) (alike f g ss (λ k d l. same (suc k) d (omega arith)))

module _ (l : Zone) where
  -- where the speeds before were these under one zone more, it is enough that the steps that it covers take them
  pub taken_within : (speed : ℤ → ℕ) (v : ℕ) (ss : List Step) → AreRising ss →
      ((c : ℤ) → speeds_of v ss c ≡ capped c l (speed c)) → map (within l (retaken speed)) ss ≡ map (retaken speed) ss
  taken_within speed v ss rising under = alike (within l (retaken speed)) (retaken speed) ss (λ k d known.
      taken_everywhere l speed (get_or ss k d) (covers (get_or ss k d).start l) refl
      (retaken_same speed l v ss k d rising under known))
