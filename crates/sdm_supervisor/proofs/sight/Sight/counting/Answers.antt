-- Each fall that is met stands behind those before it; past one that counts the walk goes on to where one may be before it.
use Rattle.std.proofs.Common.{◌≡◌, ◌<◌, ◌∷◌, ◌++◌, [], ℕ, List, Option, length, map, slice_index_or, take}
use Rattle.std.proofs.Common.{ap, sym, subst, ◌∙◌, arith}
use Rattle.std.specs.Prelude.{is_some}
use Rattle.std.proofs.lemmas.Bool.Decides.{nat_tests}
use Rattle.std.proofs.lemmas.List.{length-map, take_all, take_more}
use Rattle.sdm_rules.specs.declared.targets.Target.{Target}
use Rattle.sdm_rules.specs.Data.{TrainAndTrack}
use Rattle.sdm_rules.specs.Limits.{computed, limits_of}
use Rattle.sdm_rules.specs.Targets.{target_speed}
use Rattle.sdm_braking.specs.KeptCurves.{IsKeptTarget, targets_in}
use Rattle.sdm_braking.specs.KeptFalls.{target_of}
use Rattle.sdm_supervisor.specs.declared.shown.Counting.{Counting}
use Rattle.sdm_supervisor.specs.AskedFalls.{AreNoneEarlier, no_target}
use Rattle.sdm_supervisor.specs.Sights.{IsCounting}
use Rattle.sdm_supervisor.proofs.CountingLaws.{counts_up_to}
use Rattle.sdm_supervisor.proofs.FallsAsked.{kept_there, target_there}
use Rattle.sdm_supervisor.proofs.FewLaws.{are_falls}
use Rattle.sdm_supervisor.proofs.sight.Sight.counting.Goals as goal

pub meet-requires-clause-kept : goal.meet-requires-clause-kept
meet-requires-clause-kept c =
    subst (λ (d : TrainAndTrack). IsKeptTarget d c.target-kept.result.now) (λ k. (c.self.view_is k).train_and_track)
    (kept_there _ c.target-kept.ensures (omega (arith, c.falls-test.true, c.len-count.ensures))
    c.self.invariant.0.falls)

pub falls-preserved-then-lt : goal.falls-preserved-then-lt
falls-preserved-then-lt c =
    let d = c.args.self.now.train_and_track in
    let e = c.args.asked.now.estimate in
    let ks = c.self.inside.falls in
    let falls = map target_of ks in
    let i = c.falls.at in
    let to = c.none_earlier_to-at.result in
    let long = length-map ks target_of in
    let within : i < length ks = omega (arith, c.falls-test.true, c.len-count.ensures) in
    let there = target_there ks c.target-kept.ensures within no_target in
    let same_data : c.self.inside.braking.now ≡ d = λ k. (c.self.view_is k).train_and_track in
    let none = subst (λ (x : TrainAndTrack). AreNoneEarlier x falls i to) same_data c.none_earlier_to-at.ensures.after in
    let kinds = are_falls _ ks c.self.invariant.0.falls in
    let inside = c.none_earlier_to-at.ensures.inside in
    let met = rw (sym there) at (c.meet.ensures (take i falls) c.falls.invariant.1) in
    let speed = (kept_there ks c.target-kept.ensures within c.self.invariant.0.falls).speeds.permitted in
    let below : c.target-kept.result.now.speeds.permitted < c.speed.result = grind (arith, nat_tests) in
    let less : target_speed (slice_index_or falls i no_target) < e.speed =
    rw there (omega (arith, below, speed, c.speed.ensures.value)) in (
      inside,
      counts_up_to d e falls kinds i to _ c.none_earlier_to-at.ensures.further (omega (arith, inside, long)) none
          less met,
    )

pub falls-preserved : goal.falls-preserved
falls-preserved c =
    let ks = c.self.inside.falls in
    let falls = map target_of ks in
    let i = c.falls.at in
    let long = length-map ks target_of in
    let within : i < length ks = omega (arith, c.falls-test.true, c.len-count.ensures) in
    let there = target_there ks c.target-kept.ensures within no_target in
    let limit = λ (t : Target). (limits_of computed c.args.self.now.train_and_track c.args.asked.now.estimate t).permitted in (
      omega (arith, within),
      subst (λ (ts : List Target). IsCounting limit c.args.asked.now.estimate.speed ts c.meet.new.found)
          (ap (λ (t : Target). take i falls ++ t ∷ []) (sym there)
          ∙ sym (take_more falls i no_target (omega (arith, within, long))))
          (c.meet.ensures (take i falls) c.falls.invariant.1),
    )

pub returns : goal.returns
returns c =
    let ks = c.self.inside.falls in
    let falls = map target_of ks in
    let end = c.self.inside.end.now in
    let long = length-map ks target_of in
    let limit = λ (t : Target). (limits_of computed c.args.self.now.train_and_track c.args.asked.now.estimate t).permitted in
    let counted = λ (c' : Option Counting) (ts : List Target). IsCounting limit c.args.asked.now.estimate.speed ts c' in
    let all = subst (counted c.falls.counting) (take_all c.falls.at falls (omega (
      arith,
      long,
      c.falls-test.false,
      c.len-count.ensures,
    ))) c.falls.invariant.1 in
    let release = sym (λ k. (c.self.view_is k).situation.release) in
    let targets = ap (λ (r : Option ℕ). falls ++ targets_in end (is_some r)) release
    ∙ (λ k. (c.self.view_is k).situation.targets) in
    subst (counted c.walk_end.new.found) targets (c.walk_end.ensures falls all)
