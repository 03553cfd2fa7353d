-- What was found of few targets that are enough is what is found of all.
use Rattle.std.proofs.Common.{◌≡◌, ℕ, Bool, false, ◌&&◌, ◌||◌, List, refl, sym, ◌∙◌}
use Rattle.std.proofs.Math.Bool.{or-false}
use Rattle.sdm_num.specs.Readings.{Estimate, OdometerReading}
use Rattle.sdm_num.specs.Units.{notches}
use Rattle.sdm_rules.specs.declared.display.LimitName.{LimitName}
use Rattle.sdm_rules.specs.declared.limits.LimitKind.{LimitKind}
use Rattle.sdm_rules.specs.declared.limits.LimitKind.TheVariants.{Ebi, Sbi, Warning, Permitted, Indication}
use Rattle.sdm_rules.specs.declared.targets.Target.{Target}
use Rattle.sdm_rules.specs.Data.{TrainAndTrack}
use Rattle.sdm_rules.specs.Display.{counts_release, estimate_at, kind_of, passes_limit, situation_at}
use Rattle.sdm_rules.specs.Limits.{computed, limits_of}
use Rattle.sdm_rules.specs.Triggers.{Situation, above_ceiling, above_release, some_passed}
use Rattle.sdm_order.specs.EnoughTargets.{SayTheSame}
use Rattle.sdm_order.proofs.Enough.{enough}
use Rattle.sdm_supervisor.specs.declared.verdicts.Verdict.{Verdict}
use Rattle.sdm_supervisor.specs.AskedFalls.{IsFoundOfFew}
use Rattle.sdm_supervisor.specs.Sights.{Seen, some_target_passed}
use Rattle.sdm_supervisor.specs.Verdicts.{IsSaid}

module _ (seen : Seen) (e : Estimate) where
  -- what is seen, at the speed of the estimate
  abbrev at_speed : Situation
  at_speed = record seen.situation { speed = e.speed }

  same : (found : List Target → Type 0) (h : IsFoundOfFew seen e found) → SayTheSame seen.train_and_track e at_speed h.asked
  same found h = enough seen.train_and_track e at_speed h.asked refl h.enough

  -- what was said of them is said of all
  pub said_of_all : (v : Verdict) →
      IsFoundOfFew seen e (λ ts. IsSaid seen.train_and_track e seen.situation.est seen.situation.front ts v) →
      IsSaid seen.train_and_track e seen.situation.est seen.situation.front seen.situation.targets v
  said_of_all v h =
      let to_all = same (λ ts. IsSaid seen.train_and_track e seen.situation.est seen.situation.front ts v) h in
      let passed = h.found.passed in
      let nearest = h.found.nearest in
      record {
        passed = record {
          each = λ kind. passed.each kind ∙ sym (to_all.passed kind);
          covered = passed.covered ∙ sym (to_all.covered seen.situation.front);
        };
        nearest = record {
          ebi = nearest.ebi ∙ sym (to_all.shown Ebi);
          sbi = nearest.sbi ∙ sym (to_all.shown Sbi);
          warning = nearest.warning ∙ sym (to_all.shown Warning);
          permitted = nearest.permitted ∙ sym (to_all.shown Permitted);
          indication = nearest.indication ∙ sym (to_all.shown Indication);
        };
      }

  -- whether one of them is passed is so of all
  pub passed_of_all : (kind : LimitKind) (passed : Bool) →
      IsFoundOfFew seen e (λ ts. passed ≡ some_target_passed kind seen e ts) →
      passed ≡ some_target_passed kind seen e seen.situation.targets
  passed_of_all kind passed h =
      h.found ∙ sym ((same (λ ts. passed ≡ some_target_passed kind seen e ts) h).passed kind)

-- where the speed is above neither the ceiling nor the release speed, a limit is passed where some target is passed by it
pub passed_by_targets : (d : TrainAndTrack) (r : OdometerReading) (now : Situation) (name : LimitName) (kmh : ℕ)
    (passed : Bool) → above_ceiling (kind_of name) (situation_at (notches kmh) now) ≡ false →
    (counts_release name && above_release (situation_at (notches kmh) now)) ≡ false →
    passed ≡ some_passed (kind_of name) (limits_of computed d (estimate_at (notches kmh) r)) 0
    (situation_at (notches kmh) now) → passed ≡ passes_limit d r now name kmh
unfolding passes_limit
passed_by_targets d r now name kmh passed ceiling release is =
    let some = some_passed (kind_of name) (limits_of computed d (estimate_at (notches kmh) r)) 0
    (situation_at (notches kmh) now) in
    is ∙ sym (or-false some) ∙ (λ i. (sym ceiling i || some) || sym release i)
