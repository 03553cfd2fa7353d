-- A field is digits, or a minus sign and digits; its number is in the range or not.
use Rattle.std.proofs.Common.{◌≡◌, ℤ, false, Some, Err, int_le, to_z, of_z, w64, refl, sym, arith}
use Rattle.std.proofs.lemmas.Grind.{common_steps}
use Rattle.std.proofs.lemmas.Int.{to_z-of_z}
use Rattle.sdm_rules.specs.declared.faults.FieldFault.TheVariants.{OutOfRange}
use Rattle.sdm_formats.specs.Numbers.{in_range, number_of, read_int}
use Rattle.sdm_text.proofs.numbers.read_int.Goals as goal
use Rattle.sdm_text.proofs.numbers.read_int.Goals.{in-45+in_ok-ok_or-in-45, in_default+in_ok-number-in_default}
use Rattle.sdm_text.proofs.numbers.read_int.Goals.{else-lo-number-via-then-lo-number+else-number-hi}
use Rattle.sdm_text.proofs.numbers.read_int.Goals.{else-lo-number-via-else-lo-number}

below : (lo hi n : ℤ) → int_le lo n ≡ false → in_range lo hi (Some n) ≡ Err OutOfRange
below lo hi n lt = rw lt refl

above : (lo hi n : ℤ) → int_le n hi ≡ false → in_range lo hi (Some n) ≡ Err OutOfRange
above lo hi n lt = grind (arith, common_steps)

pub returns-then-number-hi-clause-value : goal.returns-then-number-hi-clause-value
unfolding read_int
returns-then-number-hi-clause-value c =
    let is : number_of c.args.field.now ≡ Some (to_z w64 c.if-field-lt1.number-bits) = elim c.if-field-lt1.branch [
      | in-45+in_ok-ok_or-in-45 w ↦ grind (arith, common_steps)
      | in_default+in_ok-number-in_default w ↦ grind (arith, common_steps)
    ] in
    rw is (grind (arith, common_steps))

pub returns-else-lo-number-clause-value : goal.returns-else-lo-number-clause-value
unfolding read_int
returns-else-lo-number-clause-value c =
    let is : number_of c.args.field.now ≡ Some (to_z w64 c.if-field-lt1.number-bits) = elim c.if-field-lt1.branch [
      | in-45+in_ok-ok_or-in-45 w ↦ grind (arith, common_steps)
      | in_default+in_ok-number-in_default w ↦ grind (arith, common_steps)
    ] in
    let lo : to_z w64 (of_z w64 c.args.lo) ≡ c.args.lo = to_z-of_z w64 c.args.lo c.ranges.lo in
    let hi : to_z w64 (of_z w64 c.args.hi) ≡ c.args.hi = to_z-of_z w64 c.args.hi c.ranges.hi in
    rw is (elim c.else-lo-number.branch [
      | else-lo-number-via-then-lo-number+else-number-hi w ↦
          sym (above c.args.lo c.args.hi (to_z w64 c.if-field-lt1.number-bits) (rw hi at w.if-number-hi.false))
      | else-lo-number-via-else-lo-number w ↦
          sym (below c.args.lo c.args.hi (to_z w64 c.if-field-lt1.number-bits) (rw lo at w.if-lo-number.false))
    ])
