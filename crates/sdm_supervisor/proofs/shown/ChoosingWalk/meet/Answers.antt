-- A target that is slower than the train counts where its limit is earlier than what counted.
use Rattle.std.proofs.Common.{◌≡◌, ◌<◌, ◌∷◌, ◌++◌, [], ℕ, Option, ap, sym, subst, ◌∙◌}
use Rattle.std.proofs.Common.{arith, rules}
use Rattle.std.proofs.lemmas.Bool.{false≢true}
use Rattle.std.proofs.lemmas.Bool.Decides.{nat_tests}
use Rattle.sdm_num.specs.Fractions.{Fraction, whole}
use Rattle.sdm_rules.specs.declared.targets.Target.{Target}
use Rattle.sdm_rules.specs.Limits.{computed, limits_of}
use Rattle.sdm_rules.specs.Targets.{target_speed}
use Rattle.sdm_supervisor.specs.declared.shown.Counting.{Counting}
use Rattle.sdm_supervisor.specs.Sights.{IsCounting}
use Rattle.sdm_supervisor.proofs.ShownLaws.{counts_first, counts_now, counts_still}
use Rattle.sdm_supervisor.proofs.shown.ChoosingWalk.meet.Goals as goal
use Rattle.sdm_supervisor.proofs.shown.ChoosingWalk.meet.Goals.{in-Some, in-None}

pub returns-then-not-is_earlier : goal.returns-then-not-is_earlier
returns-then-not-is_earlier c ts is =
    let e = c.args.asked.now.estimate in
    let t = c.args.kept.now.target in
    let limit : Target → Fraction = λ u. (limits_of computed c.args.sight.now.train_and_track e u).permitted in
    let slower : target_speed t < e.speed =
    subst (λ (n : ℕ). n < e.speed) c.requires.kept.speeds.permitted (grind (arith, nat_tests)) in
    let place : limit t ≡ whole c.at-permitted.result =
    (λ k. (limits_of computed (sym c.sight.view_is k).train_and_track e t).permitted)
    ∙ (λ k. (sym c.limits.ensures.places k).permitted) ∙ ap whole (sym c.at-permitted.ensures) in
    elim c.match-found.branch [
      | in-Some w ↦
          let counted = subst (λ (x : Option Counting). IsCounting limit e.speed ts x) w.in-Some.is is in
          subst (λ (x : Option Counting). IsCounting limit e.speed (ts ++ t ∷ []) x) (sym w.in-Some.is)
          (counts_still limit e.speed ts t slower c.at-permitted.result place w.in-Some.counting counted
          (search (rules)))
      | in-None w ↦ absurd (false≢true (sym c.if-not-is_earlier.true ∙ w.is_earlier-is))
    ]

pub returns : goal.returns
returns c ts is =
    let e = c.args.asked.now.estimate in
    let t = c.args.kept.now.target in
    let limit : Target → Fraction = λ u. (limits_of computed c.args.sight.now.train_and_track e u).permitted in
    let slower : target_speed t < e.speed =
    subst (λ (n : ℕ). n < e.speed) c.requires.kept.speeds.permitted (grind (arith, nat_tests)) in
    let place : limit t ≡ whole c.at-permitted.result =
    (λ k. (limits_of computed (sym c.sight.view_is k).train_and_track e t).permitted)
    ∙ (λ k. (sym c.limits.ensures.places k).permitted) ∙ ap whole (sym c.at-permitted.ensures) in
    elim c.match-found.branch [
      | in-Some w ↦
          counts_now limit e.speed ts t slower c.at-permitted.result place w.in-Some.counting
          (subst (λ (x : Option Counting). IsCounting limit e.speed ts x) w.in-Some.is is) (search (rules))
      | in-None w ↦
          counts_first limit e.speed ts t slower c.at-permitted.result place
          (subst (λ (x : Option Counting). IsCounting limit e.speed ts x) w.in-None.is is)
    ]
