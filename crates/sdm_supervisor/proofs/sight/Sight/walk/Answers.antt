-- Each fall is met behind the others, and the targets at the end behind them.
use Rattle.std.proofs.Common.{ℕ, List, Option, map, ◌++◌, ap, sym, subst, ◌∙◌, arith}
use Rattle.std.specs.Prelude.{is_some}
use Rattle.sdm_rules.specs.declared.targets.Target.{Target}
use Rattle.sdm_rules.specs.Data.{TrainAndTrack}
use Rattle.sdm_braking.specs.KeptCurves.{AreKept, IsKeptTarget, targets_in}
use Rattle.sdm_braking.specs.KeptFalls.{target_of}
use Rattle.sdm_supervisor.proofs.FallsAsked.{all_asked, kept_there, one_more}
use Rattle.sdm_supervisor.proofs.sight.Sight.walk.Goals as goal

pub meet-requires-clause-kept : goal.meet-requires-clause-kept
meet-requires-clause-kept g c =
    subst (λ (d : TrainAndTrack). IsKeptTarget d c.target.result.now) (λ k. (c.self.view_is k).train_and_track)
    (kept_there _ c.target.ensures (omega (arith, c.loop-i-test.true, c.len-i-end.ensures))
    c.self.invariant.0.falls)

pub loop-i-preserved : goal.loop-i-preserved
loop-i-preserved g c =
    subst (λ (ts : List Target). g.W.Walk.is_found c.args.walk.now c.args.self.now c.args.asked.now.estimate ts
    c.meet.new.found)
    (one_more _ c.target.ensures (omega (arith, c.loop-i-test.true, c.len-i-end.ensures)))
    (c.meet.ensures _ c.loop-i.invariant)

pub walk_end-requires-clause-kept : goal.walk_end-requires-clause-kept
walk_end-requires-clause-kept g c =
    subst (λ (d : TrainAndTrack). AreKept d c.self.inside.end.now) (λ k. (c.self.view_is k).train_and_track)
    c.self.invariant.0.end

pub returns : goal.returns
returns g c =
    let found = g.W.Walk.is_found c.args.walk.now c.args.self.now c.args.asked.now.estimate in
    let ts = map target_of c.self.inside.falls in
    let falls = subst (λ (us : List Target). found us c.loop-i.found)
    (all_asked _ c.len-i-end.ensures c.loop-i-test.false)
    c.loop-i.invariant in
    let release = sym (λ k. (c.self.view_is k).situation.release) in
    let targets = ap (λ (r : Option ℕ). ts ++ targets_in c.self.inside.end.now (is_some r)) release
    ∙ (λ k. (c.self.view_is k).situation.targets) in
    subst (λ (us : List Target). found us c.walk_end.new.found) targets (c.walk_end.ensures ts falls)
