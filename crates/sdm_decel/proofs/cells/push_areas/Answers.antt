-- The next area adds its two ends, whose bits are the ends themselves.
use Rattle.std.proofs.Common.{◌≡◌, ℕ, pos, unsigned_abs, w64, to_z, of_z, ◌+◌, ◌+ℤ◌, ap, arith}
use Rattle.std.proofs.lemmas.Int.{ints}
use Rattle.sdm_rules.specs.declared.data.Area.{Area}
use Rattle.sdm_rules.specs.Ranges.{longest_track}
use Rattle.sdm_track.specs.Ranges.{IsArea}
use Rattle.sdm_decel.proofs.Pushes.{areas_more, nat_plus}
use Rattle.sdm_decel.proofs.cells.push_areas.Goals as goal

-- the start of an area is itself in 64 bits
start_is : (a : Area) → IsArea (pos longest_track) a → unsigned_abs (to_z w64 (of_z w64 a.start)) ≡ unsigned_abs a.start
start_is a h =
    let kept : to_z w64 (of_z w64 a.start) ≡ a.start = omega (arith, ints, h.not_before, h.some_cell, h.on_track) in
    ap unsigned_abs kept

-- so is its end, to which the train length is added
end_is : (a : Area) (length_cm : ℕ) → IsArea (pos longest_track) a →
    unsigned_abs (to_z w64 (of_z w64 a.end)) + length_cm ≡ unsigned_abs (a.end +ℤ pos length_cm)
end_is a length_cm h =
    let kept : to_z w64 (of_z w64 a.end) ≡ a.end = omega (arith, ints, h.not_before, h.some_cell, h.on_track) in
    rw kept (nat_plus a.end length_cm (omega (arith, ints, h.not_before, h.some_cell)))

pub loop-area-preserved : goal.loop-area-preserved
loop-area-preserved c =
    let here = λ (d : Area). c.requires.areas c.loop-area.area-index d c.loop-area-test.true in
    areas_more c.args.length_cm c.args.areas.now c.loop-area.area-index _ _ _ _ _ _ _ c.loop-area-test.true
    c.loop-area.invariant c.in_ok-push.ensures.items c.in_ok-push-2.ensures.items
    (start_is _ (here _)) (end_is _ _ (here _))
