-- Each turn reads one more mark.
use Rattle.std.proofs.Common.{◌≡◌, ◌+◌, ◌-◌, ◌∷◌, [], suc, ◌∙◌, length-append, arith}
use Rattle.std.proofs.lemmas.Result.{err_from_is_err_and}
use Rattle.sdm_rules.specs.Certificates.{IsMarkInRange}
use Rattle.sdm_certify.proofs.ReadOn.{all_and, mark_bad, mark_read}
use Rattle.sdm_certify.proofs.checker.read_marks.Goals as goal

pub returns-in_err-mark-clause-bad : goal.returns-in_err-mark-clause-bad
returns-in_err-mark-clause-bad c =
    let is : c.args.count - c.loop-i.i ≡ suc (c.args.count - (c.loop-i.i + 1)) = omega (arith, c.loop-i-test.true) in
    let left = err_from_is_err_and c.from_residual.result c.from_residual.ensures.1 in
    rw (left.1, left.2) (c.loop-i.invariant.left ∙ mark_bad _ _ is _ _ _ c.in_err-mark.ensures.bad)

pub loop-i-preserved : goal.loop-i-preserved
loop-i-preserved c =
    let h = c.loop-i.invariant in
    let is : c.args.count - c.loop-i.i ≡ suc (c.args.count - (c.loop-i.i + 1)) = omega (arith, c.loop-i-test.true) in
    rw c.in-Ok.ensures.items (record {
      left = h.left ∙ mark_read _ _ is _ _ _ _ c.in_ok-mark.ensures.mark;
      range = all_and IsMarkInRange _ _ h.range c.in_ok-mark.ensures.range;
      count = omega (arith, length-append c.loop-i.marks.items (c.in_ok-mark.mark ∷ []), h.count);
      room = omega (arith, h.room, c.in-Ok.ensures.capacity);
    })
