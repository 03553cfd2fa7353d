-- Up to its indication limit a target that is no faster than the train only says where its limits lie. Past that each limit is passed as the profile says, by the speed and the place that are kept or found
-- for it.
use Rattle.std.proofs.Common.{◌≡◌, Bool, ◌&&◌, ◌||◌, ◌∙◌, Some, ap, refl, sym, arith}
use Rattle.std.proofs.lemmas.Bool.Decides.{nat_tests}
use Rattle.std.proofs.Math.Bool.{and-true, or-false}
use Rattle.sdm_rules.specs.declared.limits.LimitKind.TheVariants.{Ebi}
use Rattle.sdm_rules.specs.Limits.{computed, limits_of, v_bec_for}
use Rattle.sdm_rules.specs.Supervision.{is_covered_for, is_met_by_speed}
use Rattle.sdm_rules.specs.Targets.{foot_speed_of}
use Rattle.sdm_limits.specs.Sides.{place_of, place_where}
use Rattle.sdm_limits.proofs.Passed.{past_of}
use Rattle.sdm_supervisor.proofs.PassedLaws.{covered_at, covered_without}
use Rattle.sdm_supervisor.proofs.PassedLaws.{not_there, nothing_said, passes_there, reached_said}
use Rattle.sdm_supervisor.proofs.VerdictLaws.{above}
use Rattle.sdm_supervisor.proofs.verdicts.Verdict.add.Goals as goal
use Rattle.sdm_supervisor.proofs.verdicts.Verdict.add.Goals.{then-not-is_passed_by-2}
use Rattle.sdm_supervisor.proofs.verdicts.Verdict.add.Goals.{else-not-is_passed_by-2}

pub returns-then-not-is_passed_by : goal.returns-then-not-is_passed_by
returns-then-not-is_passed_by c ts is =
    nothing_said is c.requires.kept.speeds (grind (arith, nat_tests)) c.limits-limits.ensures.places c.with.ensures
    c.front_for-front.ensures c.is_passed_by.ensures c.if-not-is_passed_by.true

pub returns-after-not-is_passed_by-2 : goal.returns-after-not-is_passed_by-2
returns-after-not-is_passed_by-2 c ts is =
    let d = c.args.braking.now in
    let e = c.args.asked.now.estimate in
    let r = c.args.reading.now in
    let t = c.args.kept.now.target in
    let p = c.args.self.now in
    let s = c.requires.kept.speeds in
    let v = c.speed-v_est.ensures.value in
    let front = c.front_for-front.ensures in
    let places = c.limits-limits.ensures.places in
    let limits = limits_of computed d e t in
    let ebi : limits.ebi ≡ Some (place_of c.in-Some.ebi) = sym (λ k. (places k).ebi) ∙ ap place_where c.in-Some.is in
    let emer = (λ k. above c.lt-in-Some.ensures s.ebi v k
    && past_of c.is_passed_by-in-Some.ensures front refl k)
    ∙ sym (passes_there e.speed r.est r.max t Ebi limits (place_of c.in-Some.ebi) ebi) in
    let met = λ (m : Bool) (is : m ≡ is_met_by_speed t.kind (v_bec_for d e t) (foot_speed_of t)).
    covered_at d r.max e t (λ k. (places k).ebi) c.in-Some.is c.is_passed_by-in-Some-2.ensures
    c.max_mm-max.ensures is in
    let covered : c.if-not-is_passed_by-2.self ≡ is_covered_for d r.max e t = elim c.if-not-is_passed_by-2.branch [
      | then-not-is_passed_by-2 w ↦ w.self-is ∙ rw w.if-not-is_passed_by-2.true refl ∙ met _ refl
      | else-not-is_passed_by-2 w ↦
          w.self-is ∙ rw w.if-not-is_passed_by-2.false refl
          ∙ met _ (w.is_met_by_speed.ensures d c.requires.asked)
    ] in
    reached_said is s (grind (arith, nat_tests)) places c.with.ensures front c.is_passed_by.ensures
    c.if-not-is_passed_by.false v c.lt-2.ensures c.is_passed_by-2.ensures c.lt-3.ensures c.is_passed_by-3.ensures
    c.lt-4.ensures c.is_passed_by-4.ensures c.lt-5.ensures (λ k. p.triggers.emer || emer k)
    (λ k. p.covered && covered k)

pub returns-in_default : goal.returns-in_default
returns-in_default c ts is =
    let d = c.args.braking.now in
    let e = c.args.asked.now.estimate in
    let r = c.args.reading.now in
    let t = c.args.kept.now.target in
    let p = c.args.self.now in
    let places = c.limits-limits.ensures.places in
    let none = sym (λ k. (places k).ebi) ∙ ap place_where c.in_default.is in
    let emer = sym (not_there e.speed r.est r.max t Ebi (limits_of computed d e t) none) in
    reached_said is c.requires.kept.speeds (grind (arith, nat_tests)) places c.with.ensures c.front_for-front.ensures
    c.is_passed_by.ensures c.if-not-is_passed_by.false c.speed-v_est.ensures.value c.lt-2.ensures
    c.is_passed_by-2.ensures c.lt-3.ensures c.is_passed_by-3.ensures c.lt-4.ensures c.is_passed_by-4.ensures
    c.lt-5.ensures (sym (or-false p.triggers.emer) ∙ (λ k. p.triggers.emer || emer k))
    (sym (and-true _) ∙ (λ k. p.covered && covered_without _ r.max _ _ (λ k. (places k).ebi) c.in_default.is k))
