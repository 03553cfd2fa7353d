-- A first cause is one: looked for in order, there is one exactly where some cause stands.
use Rattle.std.proofs.Common.{◌≡◌, Bool, true, false, not, ◌&&◌, ◌||◌, List, [], ◌∷◌, Option, Some, None, refl}
use Rattle.std.proofs.Common.{◌∙◌, is_some, cond}
use Rattle.std.specs.Prelude.{option_map}
use Rattle.std.specs.List.{find, list_any}
use Rattle.sdm_rules.specs.declared.limits.LimitKind.{LimitKind}
use Rattle.sdm_rules.specs.declared.limits.LimitKind.TheVariants.{Ebi, Sbi, Warning, Permitted}
use Rattle.sdm_rules.specs.declared.targets.Target.{Target}
use Rattle.sdm_rules.specs.Limits.{SupervisionLimits}
use Rattle.sdm_rules.specs.Triggers.{Situation, above_ceiling, above_release, is_passed, passes, triggers_of}
use Rattle.sdm_causes.specs.declared.causes.Cause.{Cause}
use Rattle.sdm_causes.specs.declared.causes.Cause.TheVariants.{Ceiling, Passed, EndOfAuthority, ReleaseSpeed}
use Rattle.sdm_causes.specs.declared.causes.Cause.TheVariants.{NoServiceBrake}
use Rattle.sdm_causes.specs.CauseLaws.{AreCaused}
use Rattle.sdm_causes.specs.Causes.{first_of, first_passed, passed_by, told_first}
use Rattle.sdm_causes.specs.Causes.{told_target, where_so}

-- of two causes one is there exactly where the first or the second is
either : (a b : Option Cause) → is_some (first_of (a ∷ b ∷ [])) ≡ (is_some a || is_some b)
either (Some x) b = refl
either None (Some x) = refl
either None None = refl

-- and so of four
of_four : (a b c d : Option Cause) →
    is_some (first_of (a ∷ b ∷ c ∷ d ∷ [])) ≡ (is_some a || is_some b || is_some c || is_some d)
of_four (Some x) b c d = refl
of_four None (Some x) c d = refl
of_four None None (Some x) d = refl
of_four None None None (Some x) = refl
of_four None None None None = refl

-- a cause is there where it stands
there : (b : Bool) (cause : Cause) → is_some (where_so b cause) ≡ b
there true cause = refl
there false cause = refl

-- what is made of something is there where that is
made : {X Y : Type 0} (f : X → Y) (x : Option X) → is_some (option_map f x) ≡ is_some x
made f None = refl
made f (Some x) = refl

-- a first one is found exactly where there is one
found : {X : Type 0} (p : X → Bool) (xs : List X) → is_some (find p xs) ≡ list_any p xs
found p [] = refl
found {X = X} p (x ∷ xs) = first (p x) x (find p xs) (list_any p xs) (found p xs)
  where
    first : (b : Bool) (x : X) (rest : Option X) (any : Bool) → is_some rest ≡ any →
        is_some (cond b (Some x) rest) ≡ (b || any)
    first true x rest any is = refl
    first false x rest any is = is

module _ (limits : Target → SupervisionLimits) (s : Situation) where
  -- the limit of a kind is passed exactly where there is a cause
  pub passed : (kind : LimitKind) → is_some (passed_by kind limits s) ≡ is_passed kind limits 0 s
  unfolding told_first
  passed kind =
      either _ _
      ∙ (λ k. there (above_ceiling kind s) Ceiling k || (made Passed (told_first kind limits s)
      ∙ made (λ t. told_target kind (limits t) t) (first_passed kind limits s)
      ∙ found (λ t. passes kind s.speed s.est s.front 0 t (limits t)) s.targets) k)

  -- each trigger holds exactly where it has a cause
  pub caused : AreCaused limits s
  unfolding triggers_of
  caused = record {
    over = either _ _ ∙ (λ k. passed Permitted k || there (above_release s) ReleaseSpeed k);
    warn = passed Warning;
    serv = passed Sbi;
    emer = of_four _ _ _ _
        ∙ (λ k. passed Ebi k || there s.past_end EndOfAuthority k || there (above_release s) ReleaseSpeed k
        || (there _ NoServiceBrake ∙ (λ i. passed Sbi i && not s.in_use)) k);
  }
