-- What was asked part by part is enough.
use Rattle.std.proofs.Common.{◌≡◌, ◌++◌, ℕ, [], Option, map, ap, sym, ◌∙◌, arith}
use Rattle.std.specs.Prelude.{is_some}
use Rattle.sdm_rules.specs.declared.data.SlopeKind.TheVariants.{Normal, Safe}
use Rattle.sdm_rules.specs.Data.{TrainAndTrack}
use Rattle.sdm_rules.specs.Decelerations.{slopes_of}
use Rattle.sdm_rules.specs.Reaction.{build_up_from, v_bec}
use Rattle.sdm_order.proofs.Enough.{at_least_speed}
use Rattle.sdm_hiding.specs.Asking.{at_indexes}
use Rattle.sdm_braking.specs.KeptCurves.{targets_in}
use Rattle.sdm_braking.specs.KeptFalls.{target_of}
use Rattle.sdm_braking.proofs.FootLaws.{guides_in_order}
use Rattle.sdm_supervisor.specs.AskedFalls.{no_target}
use Rattle.sdm_supervisor.proofs.FewLaws.{are_falls, brake_feet, guide_feet}
use Rattle.sdm_supervisor.proofs.FewParts.{AreGuided, few_in_parts, guided_row, not_guided}
use Rattle.sdm_supervisor.proofs.sight.Sight.walk_few.Goals as goal
use Rattle.sdm_supervisor.proofs.sight.Sight.walk_few.Goals.{then-has_guidance, else-has_guidance}

pub walk_row-requires-clause-hidden : goal.walk_row-requires-clause-hidden
walk_row-requires-clause-hidden g c =
    rw (c.brakes-brakes.ensures.falls, c.brakes-brakes.ensures.slopes) c.self.invariant.1.hidden.brakes

pub walk_row-requires-then-has_guidance-clause-hidden : goal.walk_row-requires-then-has_guidance-clause-hidden
walk_row-requires-then-has_guidance-clause-hidden g c =
    rw (c.guides-guides.ensures.falls, c.guides-guides.ensures.slopes)
    (c.self.invariant.1.hidden.guides (sym c.has_guidance.ensures ∙ c.if-has_guidance.true))

pub returns : goal.returns
returns g c =
    let seen = c.args.self.now in
    let d = seen.train_and_track in
    let e = c.args.asked.now.estimate in
    let ks = c.self.inside.falls in
    let falls = map target_of ks in
    let end = c.self.inside.end.now in
    let release = is_some seen.situation.release in
    let same_data : c.self.inside.braking.now ≡ d = λ k. (c.self.view_is k).train_and_track in
    let kinds = are_falls _ ks c.self.invariant.0.falls in
    let order = c.self.invariant.1.order in
    let least = at_least_speed (build_up_from d e) in
    let braked = rw (c.brakes-brakes.ensures.falls, c.brakes-brakes.ensures.slopes ∙ ap (slopes_of Safe) same_data) at
    (c.walk_row.ensures 15 (v_bec (build_up_from d e) 0) []
    (rw c.brakes-brakes.ensures.falls (brake_feet falls kinds order)) (omega (arith, least)) c.requires.first) in
    let brakes = at_indexes falls no_target braked.asked in
    let guided : AreGuided d e falls kinds brakes (λ ts. g.W.Walk.is_found c.args.walk.now seen e ts c.if-has_guidance.found) =
    elim c.if-has_guidance.branch [
      | then-has_guidance w ↦
          let on = sym (c.has_guidance.ensures ∙ ap (λ (x : TrainAndTrack). x.national.guidance) same_data)
          ∙ w.if-has_guidance.true in
          rw w.found-is (guided_row d e falls kinds brakes _ on
          (rw (w.guides-guides.ensures.falls, w.guides-guides.ensures.slopes ∙ ap (slopes_of Normal) same_data) at
          (w.walk_row-then-has_guidance.ensures 0 e.speed brakes
          (rw w.guides-guides.ensures.falls (guide_feet falls kinds (guides_in_order falls order))) (omega arith)
          braked.found)))
      | else-has_guidance w ↦
          let off = sym (c.has_guidance.ensures ∙ ap (λ (x : TrainAndTrack). x.national.guidance) same_data)
          ∙ w.if-has_guidance.false in
          rw w.found-is (not_guided d e falls kinds brakes _ off braked.found)
    ] in
    let faster = c.walk_faster.ensures (brakes ++ guided.guides) guided.found in
    let targets = ap (λ (r : Option ℕ). falls ++ targets_in end (is_some r)) (sym (λ k. (c.self.view_is k).situation.release))
    ∙ (λ k. (c.self.view_is k).situation.targets) in
    few_in_parts seen e falls kinds end release targets _ _ _ _ braked guided faster
    (c.walk_end.ensures ((brakes ++ guided.guides) ++ faster.asked) faster.found)
