-- Each turn counts the next one or leaves it out.
use Rattle.std.proofs.Common.{◌≡◌, ◌-◌, suc, true, false, length, ap, add-one, arith}
use Rattle.sdm_certify.specs.WrittenLines.{is_written}
use Rattle.sdm_certify.proofs.WrittenSegments.{none_written, one_written}
use Rattle.sdm_certify.proofs.written_map.written_count.Goals as goal
use Rattle.sdm_certify.proofs.written_map.written_count.Goals.{then-is_written, else-is_written}

pub loop-i-preserved : goal.loop-i-preserved
loop-i-preserved c =
    let m = c.args.map.now in
    let i = c.loop-i.i in
    let h = c.loop-i.invariant in
    let is : length m.starts - i ≡ suc (length m.starts - suc i) =
    omega (arith, c.loop-i-test.true, c.segments-i-end.ensures.value) in
    rw add-one (elim c.if-is_written.branch [
      | then-is_written w ↦
          let here : is_written m i ≡ true = rw c.is_written.ensures at w.if-is_written.true in
          let long = ap length (one_written m i _ _ is here) in
          record { left = omega (arith, h.left, long, w.count-is); few = omega (arith, h.few, w.count-is) }
      | else-is_written w ↦
          let not_here : is_written m i ≡ false = rw c.is_written.ensures at w.if-is_written.false in
          let long = ap length (none_written m i _ _ is not_here) in
          record { left = omega (arith, h.left, long, w.count-is); few = omega (arith, h.few, w.count-is) }
    ])
