use Rattle.std.proofs.Common.{◌≡◌, ◌≤◌, ◌+◌, arith}
use Rattle.sdm_rules.specs.Slopes.{meaning_of}
use Rattle.sdm_laws.proofs.Rows.CalculatedRelease.{standstill_fits}
use Rattle.sdm_release.proofs.Halving.{halved}
use Rattle.sdm_release.proofs.speed.release_speed.Goals as goal

pub loop-turn-init : goal.loop-turn-init
loop-turn-init c =
    let a = c.args in
    record {
      apart = omega arith;
      width = omega arith;
      top = omega arith;
      slow = standstill_fits (meaning_of a.safe.now) a.t_be a.ebd.now.place a.trip c.requires.trip;
      fast = λ le. absurd (omega arith);
      usable = λ le. absurd (omega arith);
    }

pub returns-clause-value : goal.returns-clause-value
returns-clause-value c =
    let a = c.args in
    let end = c.loop-turn in
    let kept = end.invariant in
    let none : end._turn ≡ 0 = omega (arith, c.loop-turn-test.false) in
    let next : end.fast ≤ end.slow + 1 = rw none at kept.width in
    halved (meaning_of a.safe.now) (kept.usable (omega (arith, next))) a.t_be a.ebd.now.place a.trip end.slow end.fast
    (omega (arith, next, kept.apart)) (omega (arith, kept.apart, kept.top)) kept.slow kept.fast
