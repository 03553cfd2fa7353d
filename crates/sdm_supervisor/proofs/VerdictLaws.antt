-- What is said of a sight is what its targets say, and behind that what the ceiling, the release speed and the end of
-- the authority say.
use Rattle.std.proofs.Common.{◌≡◌, ℕ, Bool, true, false, not, ◌&&◌, ◌||◌, ◌+◌, refl, sym, ◌∙◌, nat_lt, nat_cmp, is_lt}
use Rattle.std.proofs.Common.{arith, cond}
use Rattle.std.specs.Prelude.{◌==◌}
use Rattle.std.specs.declared.cmp.Ordering.TheVariants.{Less, Equal, Greater}
use Rattle.std.proofs.Math.Bool.{or-false, or_comm}
use Rattle.std.proofs.lemmas.Bool.{le-ltb, ltb-false}
use Rattle.sdm_num.specs.Units.{notches}
use Rattle.sdm_rules.specs.declared.limits.LimitKind.{LimitKind}
use Rattle.sdm_rules.specs.declared.limits.LimitKind.TheVariants.{Ebi, Sbi, Warning, Permitted}
use Rattle.sdm_rules.specs.declared.targets.Target.{Target}
use Rattle.sdm_rules.specs.Limits.{SupervisionLimits}
use Rattle.sdm_rules.specs.Margins.{margin_of, no_margin}
use Rattle.sdm_rules.specs.Triggers.{Situation, above_ceiling, above_release, some_passed, triggers_of}
use Rattle.sdm_supervisor.specs.declared.verdicts.Verdict.{Verdict}
use Rattle.sdm_supervisor.specs.Verdicts.{said_of}

-- a speed is above another where the comparison of both answers so
pub above : {lt : Bool} {x y a b : ℕ} → lt ≡ is_lt (nat_cmp x y) → x ≡ a → y ≡ b → lt ≡ nat_lt a b
above {lt} {x} {y} is of than = is ∙ less_is (nat_lt x y) (x == y) ∙ (λ k. nat_lt (of k) (than k))
  where
    less_is : (b c : Bool) → is_lt (cond b Less (cond c Equal Greater)) ≡ b
    less_is true c = refl
    less_is false true = refl
    less_is false false = refl

module _ (s : Situation) where
  -- what the targets say, and behind it the ceiling
  abbrev pub with_ceiling : Verdict → Verdict
  with_ceiling v = record v {
    triggers = record {
      over = v.triggers.over || above_ceiling Permitted s;
      warn = v.triggers.warn || above_ceiling Warning s;
      serv = v.triggers.serv || above_ceiling Sbi s;
      emer = v.triggers.emer || above_ceiling Ebi s;
    };
  }

  -- no margin makes the ceiling lower
  pub no_ceiling : above_ceiling Permitted s ≡ false → (v : Verdict) → v ≡ with_ceiling v
  no_ceiling within v =
      let none = λ (kind : LimitKind) (b : Bool). sym (or-false b)
      ∙ (λ i. b || sym (le-ltb (notches s.ceiling_kmh + margin_of kind s.ceiling_kmh) s.speed
      (omega (arith, ltb-false (notches s.ceiling_kmh + no_margin s.ceiling_kmh) s.speed within))) i) in
      λ k. record v {
        triggers = record {
          over = none Permitted v.triggers.over k;
          warn = none Warning v.triggers.warn k;
          serv = none Sbi v.triggers.serv k;
          emer = none Ebi v.triggers.emer k;
        };
      }

  -- the release speed behind it
  abbrev pub with_release : Verdict → Verdict
  with_release v = record v {
    triggers = record v.triggers {
      over = v.triggers.over || above_release s;
      emer = v.triggers.emer || above_release s;
    };
  }

  -- and the end of the authority, and a service brake that is not in use
  abbrev pub with_end : Verdict → Verdict
  with_end v = record v {
    triggers = record v.triggers { emer = v.triggers.emer || (s.past_end || (v.triggers.serv && not s.in_use)) };
  }

  -- all of that triggers as the profile says
  pub triggers_are : (limits : Target → SupervisionLimits) (v : Verdict) →
      ((kind : LimitKind) → said_of kind v.triggers v.indicated ≡ some_passed kind limits 0 s) →
      (with_end (with_release (with_ceiling v))).triggers ≡ triggers_of limits 0 s
  unfolding triggers_of
  triggers_are limits v each = λ k. record {
    over = or_comm (each Permitted k) (above_ceiling Permitted s) k || above_release s;
    warn = or_comm (each Warning k) (above_ceiling Warning s) k;
    serv = or_comm (each Sbi k) (above_ceiling Sbi s) k;
    emer = in_order (or_comm (each Ebi k) (above_ceiling Ebi s) k) (above_release s) s.past_end
        (or_comm (each Sbi k) (above_ceiling Sbi s) k && not s.in_use) k;
  }
    where
      in_order : (a r e x : Bool) → ((a || r) || (e || x)) ≡ (((a || e) || r) || x)
      in_order true r e x = refl
      in_order false true true x = refl
      in_order false true false x = refl
      in_order false false true x = refl
      in_order false false false x = refl
