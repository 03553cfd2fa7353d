-- Each fall that is faster is asked behind the others, where not each is met by speed.
use Rattle.std.proofs.Common.{◌<◌, ◌≤◌, ◌+◌, length, map, arith}
use Rattle.std.proofs.lemmas.Bool.Decides.{nat_tests}
use Rattle.std.proofs.lemmas.List.{length-map}
use Rattle.sdm_rules.specs.Reaction.{build_up_from, v_bec}
use Rattle.sdm_braking.specs.KeptFalls.{target_of}
use Rattle.sdm_supervisor.specs.AskedFalls.{no_target}
use Rattle.sdm_supervisor.proofs.FallsAsked.{kept_there, target_there}
use Rattle.sdm_supervisor.proofs.FewLaws.{are_falls, met_falls}
use Rattle.sdm_supervisor.proofs.FewWalks.{faster_more, faster_not, none_faster}
use Rattle.sdm_supervisor.proofs.sight.Sight.walk_faster.Goals as goal
use Rattle.sdm_supervisor.proofs.sight.Sight.walk_faster.Goals.{then-lt, else-lt}

pub returns-then-notches : goal.returns-then-notches
returns-then-notches g c before so_far =
    let d = c.args.self.now.train_and_track in
    let e = c.args.asked.now.estimate in
    let falls = map target_of c.args.falls.now in
    let bec = c.requires.asked.v_bec no_target (omega arith) in
    let near : v_bec (build_up_from d e) 0 ≤ e.speed + 112_500 = omega (
      arith,
      bec,
      c.speed.ensures,
      c.speed-v_est.ensures.value,
      c.notches.ensures.value,
      c.notches-2.ensures.value,
      c.if-notches.true,
    ) in
    none_faster e falls before d _ (met_falls falls (are_falls d c.args.falls.now c.requires.falls) d e near) so_far

pub meet_faster-requires-clause-kept : goal.meet_faster-requires-clause-kept
meet_faster-requires-clause-kept g c =
    kept_there c.args.falls.now c.target-kept.ensures (omega (arith, c.loop-i-test.true, c.len-i-end.ensures))
    c.requires.falls

pub meet_faster-requires-clause-faster : goal.meet_faster-requires-clause-faster
meet_faster-requires-clause-faster g c =
    let within : c.loop-i.i < length c.args.falls.now = omega (arith, c.loop-i-test.true, c.len-i-end.ensures) in
    let speed = (kept_there c.args.falls.now c.target-kept.ensures within c.requires.falls).speeds.permitted in
    let fast : c.speed-v_est.result < c.target-kept.result.now.speeds.permitted = grind (arith, nat_tests) in
    omega (arith, fast, speed, c.speed-v_est.ensures.value)

pub loop-i-preserved : goal.loop-i-preserved
loop-i-preserved g c before so_far =
    let ks = c.args.falls.now in
    let e = c.args.asked.now.estimate in
    let falls = map target_of ks in
    let i = c.loop-i.i in
    let t = c.target-kept.result.now.target in
    let within : i < length ks = omega (arith, c.loop-i-test.true, c.len-i-end.ensures) in
    let long = length-map ks target_of in
    let known : i < length falls = omega (arith, within, long) in
    let there = target_there ks c.target-kept.ensures within t in
    let speed = (kept_there ks c.target-kept.ensures within c.requires.falls).speeds.permitted in
    let h = c.loop-i.invariant before so_far in
    elim c.if-lt.branch [
      | then-lt w ↦
          let fast : c.speed-v_est.result < c.target-kept.result.now.speeds.permitted = grind (arith, nat_tests) in
          rw w.found-is (faster_more e falls before i t known there _ _
          (omega (arith, fast, speed, c.speed-v_est.ensures.value)) w.meet_faster.ensures h)
      | else-lt w ↦
          let slow : c.target-kept.result.now.speeds.permitted ≤ c.speed-v_est.result = grind (arith, nat_tests) in
          rw w.found-is (faster_not e falls before i t known there _
          (omega (arith, slow, speed, c.speed-v_est.ensures.value)) h)
    ]
