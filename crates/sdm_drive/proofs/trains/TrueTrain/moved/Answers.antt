use Rattle.std.proofs.Common.{◌≡◌, ℕ, ◌+◌, ◌∙◌, ap, arith}
use Rattle.sdm_rules.specs.Slopes.{meaning_of}
use Rattle.sdm_drive.specs.Drive.{TrueTrain, stop_between}
use Rattle.sdm_drive.proofs.Moves.{moved_more}
use Rattle.sdm_drive.proofs.trains.TrueTrain.moved.Goals as goal

pub loop-k-preserved : goal.loop-k-preserved
loop-k-preserved c =
    let speed : c.train.inside.speed ≡ c.loop-k.train.speed = ap (λ (t : TrueTrain). t.speed) c.train.view_is in
    let slow = c.train.invariant.speed in
    let small = c.stop_between-stops.ensures.small in
    moved_more (meaning_of c.args.map.now) c.args.orders c.args.time c.args.self c.loop-k.k c.loop-k.train _
    c.loop-k.stops _ c.q.ensures.usable (omega arith) (omega arith) (c.next.view_is ∙ c.after_ds-next.ensures)
    (ap (λ (n : ℕ). c.loop-k.stops + n) (c.stop_between-stops.ensures.value
    ∙ ap (λ (t : TrueTrain). stop_between t.speed c.next.inside.speed) c.train.view_is))
    (omega arith) c.loop-k.invariant
