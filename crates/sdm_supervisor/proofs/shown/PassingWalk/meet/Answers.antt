-- Above its speed with the margin a target is passed where the front end is past the limit.
use Rattle.std.proofs.Common.{◌≡◌, ◌<◌, ℕ, Some, ap, refl, sym, subst, ◌∙◌, arith}
use Rattle.std.proofs.lemmas.Bool.Decides.{nat_tests}
use Rattle.sdm_rules.specs.Limits.{computed, limit_in, limits_of}
use Rattle.sdm_rules.specs.Margins.{margin_of}
use Rattle.sdm_rules.specs.Targets.{with_margin}
use Rattle.sdm_rules.specs.Triggers.{front_for, passes}
use Rattle.sdm_limits.specs.Sides.{place_of, place_where}
use Rattle.sdm_limits.proofs.Passed.{past_of}
use Rattle.sdm_supervisor.proofs.ShownLaws.{above, passed_now, speed_is}
use Rattle.sdm_supervisor.proofs.shown.PassingWalk.meet.Goals as goal

pub returns-in-Some : goal.returns-in-Some
returns-in-Some c ts is =
    let seen = c.args.sight.now in
    let now = seen.situation in
    let e = c.args.asked.now.estimate in
    let t = c.args.kept.now.target in
    let kind = c.args.self.now.kind in
    let limits = limits_of computed seen.train_and_track e t in
    let places = c.limits.ensures.places ∙ (λ k. limits_of computed (c.sight.view_is k).train_and_track e t) in
    let speed = c.speed-else-found.ensures ∙ speed_is kind t c.args.kept.now.speeds c.requires.kept.speeds in
    let faster : with_margin (margin_of kind) t < e.speed =
    subst (λ (n : ℕ). n < e.speed) speed (grind (arith, nat_tests)) in
    let limit : limit_in kind limits ≡ Some (place_of c.in-Some.limit) =
    (λ k. limit_in kind (sym places k)) ∙ sym c.limit.ensures ∙ ap place_where c.in-Some.is in
    let here : c.is_passed_by.result ≡ passes kind e.speed now.est now.front 0 t limits =
    past_of c.is_passed_by.ensures (c.front_for.ensures
    ∙ (λ k. front_for (c.sight.view_is k).situation.est (c.sight.view_is k).situation.front t.kind)) refl
    ∙ sym (above e.speed now.est now.front t kind limits (place_of c.in-Some.limit) limit faster) in
    passed_now _ ts t c.args.found.now _ c.if-found.false is here
