-- The next segment adds its start.
use Rattle.std.proofs.Common.{◌<◌, length, unsigned_abs, w32, ap, rules, arith, ◌∙◌}
use Rattle.std.proofs.lemmas.Int.{to_z-of_z}
use Rattle.sdm_decel.proofs.Pushes.{gradients_more}
use Rattle.sdm_decel.proofs.cells.push_gradients.Goals as goal

pub loop-i-preserved : goal.loop-i-preserved
loop-i-preserved c =
    let start = c.start.result in
    let known : c.loop-i.i < length c.args.segments.now = omega arith in
    gradients_more c.args.segments.now c.loop-i.i start _ _ _ _ known c.start.ensures.value c.loop-i.invariant
    c.in_ok-push.ensures.items
    (c.unsigned_abs.ensures.value ∙ ap unsigned_abs (to_z-of_z w32 start (search rules)))
