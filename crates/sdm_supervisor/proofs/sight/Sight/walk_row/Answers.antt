-- Each curve that the walk names is asked behind the others; where it names no more, those are enough.
use Rattle.std.proofs.Common.{◌<◌, ◌≤◌, length, map, arith}
use Rattle.std.proofs.lemmas.List.{length-map}
use Rattle.sdm_braking.specs.KeptFalls.{target_of}
use Rattle.sdm_supervisor.specs.AskedFalls.{no_target}
use Rattle.sdm_supervisor.proofs.FallsAsked.{kept_there, target_there}
use Rattle.sdm_supervisor.proofs.FewWalks.{row_begun, row_done, row_more}
use Rattle.sdm_supervisor.proofs.sight.Sight.walk_row.Goals as goal

pub curves-init : goal.curves-init
curves-init g c margin bec before is fast so_far =
    let on = g.F.Feet.on c.args.row.now in
    let feet = g.F.Feet.feet c.args.row.now in
    row_begun on feet margin c.speed-v_est.result bec (map target_of c.args.falls.now) before c.begin-asking.result _
    (c.begin-asking.ensures on feet margin bec) so_far

pub meet-requires-clause-kept : goal.meet-requires-clause-kept
meet-requires-clause-kept g c =
    let known = c.in-Some.ensures.further.1 in
    kept_there c.args.falls.now c.target.ensures (omega (arith, known, c.requires.row)) c.requires.falls

pub curves-preserved : goal.curves-preserved
curves-preserved g c margin bec before is fast so_far =
    let ks = c.args.falls.now in
    let h = c.curves.invariant margin bec before is fast so_far in
    let known = c.in-Some.ensures.further.1 in
    let within : c.in-Some.i < length ks = omega (arith, known, c.requires.row) in
    let long = length-map ks target_of in
    row_more (g.F.Feet.on c.args.row.now) (g.F.Feet.feet c.args.row.now) margin c.speed-v_est.result bec
    (map target_of ks) before c.curves.asking c.next.new.self _ _ c.in-Some.i c.target.result.now.target h
    (omega (arith, within, long)) (target_there ks c.target.ensures within no_target)
    (c.in-Some.ensures.asks margin bec h.asked is fast h.walked) c.meet.ensures

pub returns : goal.returns
returns g c margin bec before is fast so_far =
    let v = c.speed-v_est.ensures.value in
    let faster : c.speed-v_est.result ≤ bec = omega (arith, v, fast) in
    let h = c.curves.invariant margin bec before is faster so_far in
    row_done (g.F.Feet.on c.args.row.now) (g.F.Feet.feet c.args.row.now) margin c.speed-v_est.result bec
    (map target_of c.args.falls.now) before c.curves.asking _ c.args.asked.now.estimate.speed h v
    (c.in_default.ensures.asks margin bec h.asked is faster h.walked)
