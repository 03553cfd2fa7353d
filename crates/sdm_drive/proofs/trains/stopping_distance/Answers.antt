-- A train that stops in the ds comes no farther than with half its speed.
use Rattle.std.proofs.Common.{◌≡◌, ℕ, ◌*◌, ◌/◌, ◌<◌, ◌≤◌, arith, ◌∙◌}
use Rattle.sdm_drive.specs.Drive.{speed_loss, stopping_distance}
use Rattle.sdm_drive.proofs.Braked.{stop_near}
use Rattle.sdm_drive.proofs.trains.stopping_distance.Goals as goal

-- the numbers that are divided are those of the call
near : (q a w q' a' w' : ℕ) → q' ≡ q → a' ≡ a → w' ≡ w → 0 < q → w < speed_loss q a →
    5_000_000_000_000 * q' * (w' * w') / (27 * a') ≤ 500_000 * w
unfolding stopping_distance
near q a w q' a' w' q_is a_is w_is some stops = rw (q_is, a_is, w_is) (stop_near q a w some stops)

pub overflow_cast-result : goal.overflow_cast-result
overflow_cast-result c =
    omega (
      arith,
      near c.args.q c.args.slope c.args.speed c.from.result c.from-2.result c.from-v.result c.from.ensures
          c.from-2.ensures (c.from-v.ensures ∙ c.notches.ensures.value) c.requires.unit c.requires.stops,
      c.notches.ensures.range,
    )

pub returns-clause-near : goal.returns-clause-near
returns-clause-near c =
    near c.args.q c.args.slope c.args.speed c.from.result c.from-2.result c.from-v.result c.from.ensures
    c.from-2.ensures (c.from-v.ensures ∙ c.notches.ensures.value) c.requires.unit c.requires.stops
