-- The next band adds its upper speed, if it has one.
use Rattle.std.proofs.Common.{◌≡◌, w64, to_z, of_z, sym, ◌∙◌, arith}
use Rattle.std.proofs.lemmas.Int.{ints}
use Rattle.sdm_decel.proofs.Pushes.{uppers_more, uppers_same}
use Rattle.sdm_decel.proofs.maps.uppers.Goals as goal
use Rattle.sdm_decel.proofs.maps.uppers.Goals.{in-Some+in_ok-push, in_default}

pub loop-i-preserved : goal.loop-i-preserved
loop-i-preserved c = elim c.match-band.branch [
  | in-Some+in_ok-push w ↦ (
      let kmh = w.in-Some.kmh in
      let range = rw w.in-Some.is at c.band.ensures.range.upper in
      let kept : to_z w64 (of_z w64 kmh) ≡ kmh = omega (arith, ints, range.0, range.1) in
      let speed_is = rw kept at w.of_kmh.ensures in
      rw w.uppers-is (uppers_more c.args.train.now.bands c.loop-i.i c.band.result.now kmh _ _ _ c.band.ensures.value
      w.in-Some.is c.loop-i.invariant w.in_ok-push.ensures.items speed_is))
  | in_default w ↦ rw w.uppers-is (c.loop-i.invariant ∙ sym
      (uppers_same c.args.train.now.bands c.loop-i.i c.band.result.now c.band.ensures.value w.in_default.not-Some))
]
