-- The first target that is passed, with one more target behind the others: one that was found stays the first, and else
-- the one more is, where it is passed.
use Rattle.std.proofs.Common.{◌≡◌, ℤ, Bool, true, false, List, [], ◌∷◌, ◌++◌, Option, Some, None, refl, ap, sym, ◌∙◌}
use Rattle.std.proofs.Common.{pos, cond, is_some}
use Rattle.std.proofs.lemmas.Bool.{false≢true}
use Rattle.std.specs.Prelude.{option_map}
use Rattle.std.specs.List.{find}
use Rattle.std.specs.Option.{option_map_or, option_or}
use Rattle.std.proofs.lemmas.List.Folds.{find-append}
use Rattle.sdm_num.specs.Bounds.{mm_below}
use Rattle.sdm_num.specs.Fractions.{whole}
use Rattle.sdm_num.specs.Readings.{Estimate}
use Rattle.sdm_rules.specs.declared.limits.LimitKind.{LimitKind}
use Rattle.sdm_rules.specs.declared.targets.Target.{Target}
use Rattle.sdm_rules.specs.Limits.{SupervisionLimits, computed, limit_in, limits_of}
use Rattle.sdm_rules.specs.Supervision.{whole_mm}
use Rattle.sdm_rules.specs.Triggers.{passes}
use Rattle.sdm_causes.specs.declared.causes.Cause.{Cause}
use Rattle.sdm_causes.specs.declared.causes.PassedTarget.{PassedTarget}
use Rattle.sdm_causes.specs.Causes.{first_of, told_first, told_target}
use Rattle.sdm_supervisor.specs.Passed.{first_among}
use Rattle.sdm_supervisor.specs.Sights.{Seen}
use Rattle.sdm_supervisor.proofs.NearestLaws.{mm_of_whole}

-- ---- the first of a list, and what is made of it

module _ {X Y : Type 0} (p : X → Bool) (f : X → Y) (xs : List X) (x : X) where
  -- what is made of the first
  abbrev made : List X → Option Y
  made ys = option_map f (find p ys)

  -- with one more it is of the first before, or else of that one
  one_more : made (xs ++ x ∷ []) ≡ option_or (made xs) (made (x ∷ []))
  one_more = ap (option_map f) (find-append p xs (x ∷ [])) ∙ of_either (find p xs) (find p (x ∷ []))
    where
      of_either : (a b : Option X) → option_map f (option_or a b) ≡ option_or (option_map f a) (option_map f b)
      of_either None b = refl
      of_either (Some a) b = refl

  -- one that was found stays
  stays : (found : Option Y) → is_some found ≡ true → found ≡ made xs → found ≡ made (xs ++ x ∷ [])
  stays None there is = absurd (false≢true there)
  stays (Some y) there is = ap (λ (o : Option Y). option_or o (made (x ∷ []))) is ∙ sym one_more

  -- one more that fails changes nothing
  passed_over : (found : Option Y) → p x ≡ false → found ≡ made xs → found ≡ made (xs ++ x ∷ [])
  passed_over found fails is =
      sym (none_behind found) ∙ (λ k. option_or (is k) (option_map f (cond (sym fails k) (Some x) None))) ∙ sym one_more
    where
      none_behind : (o : Option Y) → option_or o None ≡ o
      none_behind None = refl
      none_behind (Some y) = refl

  -- one more that passes is the first where none was found
  comes : None ≡ made xs → p x ≡ true → Some (f x) ≡ made (xs ++ x ∷ [])
  comes none passes =
      (λ k. option_or (none k) (option_map f (cond (sym passes k) (Some x) None))) ∙ sym one_more

-- ---- the first target that is passed

module _ (kind : LimitKind) (seen : Seen) (e : Estimate) (ts : List Target) (t : Target) where
  -- the limits of targets
  abbrev limits : Target → SupervisionLimits
  limits u = limits_of computed seen.train_and_track e u

  -- whether a target is passed
  abbrev is_passed : Target → Bool
  is_passed u = passes kind e.speed seen.situation.est seen.situation.front 0 u (limits u)

  -- what is told of it
  abbrev told : Target → PassedTarget
  told u = told_target kind (limits u) u

  pub still_first : (found : Option PassedTarget) → is_some found ≡ true →
      found ≡ first_among kind seen e ts → found ≡ first_among kind seen e (ts ++ t ∷ [])
  unfolding told_first
  still_first found there is = stays is_passed told ts t found there is

  pub unpassed : (found : Option PassedTarget) → is_passed t ≡ false →
      found ≡ first_among kind seen e ts → found ≡ first_among kind seen e (ts ++ t ∷ [])
  unfolding told_first
  unpassed found fails is = passed_over is_passed told ts t found fails is

  pub now_first : None ≡ first_among kind seen e ts → is_passed t ≡ true →
      Some (told t) ≡ first_among kind seen e (ts ++ t ∷ [])
  unfolding told_first
  now_first none passes = comes is_passed told ts t none passes

  -- its limit is told in whole millimetres
  pub limit_told : (at : ℤ) → limit_in kind (limits t) ≡ Some (whole at) → (told t).limit ≡ mm_below at
  limit_told at is = ap (λ x. option_map_or whole_mm x (pos 0)) is ∙ mm_of_whole at

-- of no target none is passed
pub first_of_none : (kind : LimitKind) (seen : Seen) (e : Estimate) → None ≡ first_among kind seen e []
unfolding told_first
first_of_none kind seen e = refl

-- four causes in turn are the first of a list
pub in_turn : (a b c d : Option Cause) → option_or (option_or (option_or a b) c) d ≡ first_of (a ∷ b ∷ c ∷ d ∷ [])
in_turn (Some x) b c d = refl
in_turn None (Some x) c d = refl
in_turn None None (Some x) d = refl
in_turn None None None (Some x) = refl
in_turn None None None None = refl

-- and two
pub both_in_turn : (a b : Option Cause) → option_or a b ≡ first_of (a ∷ b ∷ [])
both_in_turn (Some x) b = refl
both_in_turn None (Some x) = refl
both_in_turn None None = refl
