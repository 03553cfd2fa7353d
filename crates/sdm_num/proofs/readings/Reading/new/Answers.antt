-- What was tested in millimetres and millimetres a second holds in grains and notches.
use Rattle.std.proofs.Common.{◌≡◌, ap, ◌∙◌, arith, to_z, of_z, w16, w32, subst, sym}
use Rattle.std.proofs.lemmas.Int.{ints, to_z-of_z}
use Rattle.sdm_num.specs.Units.{place_of_mm}
use Rattle.sdm_num.specs.Readings.{IsReading, reading_of}
use Rattle.sdm_num.proofs.readings.Reading.new.Goals as goal

in_range : (c : goal.After-of_mm_s-2) → IsReading
    (reading_of c.args.time c.args.est_mm c.args.min_mm c.args.max_mm c.args.speed_mm_s c.args.accel c.args.under_mm_s)
in_range c =
    let est = to_z-of_z w32 c.args.est_mm c.ranges.est_mm in
    let min = to_z-of_z w32 c.args.min_mm c.ranges.min_mm in
    let max = to_z-of_z w32 c.args.max_mm c.ranges.max_mm in
    let accel = to_z-of_z w16 c.args.accel c.ranges.accel in
    let low = rw (min) at c.if-min_mm-ltminus10000000.false in
    let back = rw (min, est) at c.if-est_mm-min_mm.false in
    let front = rw (max, est) at c.if-max_mm-est_mm.false in
    let high = rw (max) at c.if-max_mm-gt110000000.false in
    let slowing = rw (accel) at c.if-accel-ltminus300.false in
    let gaining = rw (accel) at c.if-accel-gt300.false in
    record {
      time = omega arith;
      low = omega (arith, ints, low);
      back = omega (arith, ints, back);
      front = omega (arith, ints, front);
      high = omega (arith, ints, high);
      speed = omega arith;
      slowing = omega (arith, ints, slowing);
      gaining = omega (arith, ints, gaining);
      under = omega arith;
    }

kept : (c : goal.After-of_mm_s-2) →
    record {
      time = c.args.time;
      est = c.of_mm.result;
      min = c.of_mm-2.result;
      max = c.of_mm-3.result;
      speed =
          c.of_mm_s.result;
      accel = to_z w16 (of_z w16 c.args.accel);
      under = c.of_mm_s-2.result;
    }
    ≡ reading_of c.args.time c.args.est_mm c.args.min_mm c.args.max_mm c.args.speed_mm_s c.args.accel c.args.under_mm_s
kept c =
    let est = c.of_mm.ensures ∙ ap place_of_mm (to_z-of_z w32 c.args.est_mm c.ranges.est_mm) in
    let min = c.of_mm-2.ensures ∙ ap place_of_mm (to_z-of_z w32 c.args.min_mm c.ranges.min_mm) in
    let max = c.of_mm-3.ensures ∙ ap place_of_mm (to_z-of_z w32 c.args.max_mm c.ranges.max_mm) in
    let accel = to_z-of_z w16 c.args.accel c.ranges.accel in
    cc (est, min, max, accel, c.of_mm_s.ensures, c.of_mm_s-2.ensures)

pub invariant_of-result : goal.invariant_of-result
invariant_of-result c = subst IsReading (sym (kept c)) (in_range c)

pub returns : goal.returns
returns c = (in_range c, kept c)
