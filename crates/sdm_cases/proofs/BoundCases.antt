-- What bounds stand for and what not, at both ends and in between.
use Rattle.std.proofs.Common.{pos, arith}
use Rattle.std.proofs.lemmas.Int.{ints}
use Rattle.sdm_num.specs.Fractions.{whole}
use Rattle.sdm_num.specs.Bounds.{Bound, IsEarlyFor, IsLateFor}

-- ---- early: from 5 to 7

-- a place with a slack of 2
abbrev five_and_two_past : Bound
five_and_two_past = record { at = pos 5; slack = 2 }

early_for_itself : IsEarlyFor five_and_two_past (whole (pos 5))
early_for_itself = record {
  positive = omega arith;
  not_past = record {
    crossed = omega (arith, ints);
  };
  near = record { crossed = omega (arith, ints) };
}

early_for_six_and_a_half : IsEarlyFor five_and_two_past (record { n = pos 13; m = 2 })
early_for_six_and_a_half = record {
  positive = omega arith;
  not_past = record {
    crossed = omega (arith, ints);
  };
  near = record { crossed = omega (arith, ints) };
}

early_for_the_end : IsEarlyFor five_and_two_past (whole (pos 7))
early_for_the_end = record {
  positive = omega arith;
  not_past = record {
    crossed = omega (arith, ints);
  };
  near = record { crossed = omega (arith, ints) };
}

not_early_for_less : IsEarlyFor five_and_two_past (record { n = pos 49; m = 10 }) → ⊥
not_early_for_less h = let k = h.not_past.crossed in omega (arith, ints, k)

not_early_for_more : IsEarlyFor five_and_two_past (record { n = pos 71; m = 10 }) → ⊥
not_early_for_more h = let k = h.near.crossed in omega (arith, ints, k)

not_early_for_no_number : IsEarlyFor five_and_two_past (record { n = pos 0; m = 0 }) → ⊥
not_early_for_no_number h = let k = h.positive in omega (arith, k)

-- ---- late: from 3 to 5

late_for_itself : IsLateFor five_and_two_past (whole (pos 5))
late_for_itself = record {
  positive = omega arith;
  not_before = record {
    crossed = omega (arith, ints);
  };
  near = record { crossed = omega (arith, ints) };
}

late_for_three_and_a_half : IsLateFor five_and_two_past (record { n = pos 7; m = 2 })
late_for_three_and_a_half = record {
  positive = omega arith;
  not_before = record {
    crossed = omega (arith, ints);
  };
  near = record { crossed = omega (arith, ints) };
}

late_for_the_start : IsLateFor five_and_two_past (whole (pos 3))
late_for_the_start = record {
  positive = omega arith;
  not_before = record {
    crossed = omega (arith, ints);
  };
  near = record { crossed = omega (arith, ints) };
}

not_late_for_more : IsLateFor five_and_two_past (record { n = pos 51; m = 10 }) → ⊥
not_late_for_more h = let k = h.not_before.crossed in omega (arith, ints, k)

not_late_for_less : IsLateFor five_and_two_past (record { n = pos 29; m = 10 }) → ⊥
not_late_for_less h = let k = h.near.crossed in omega (arith, ints, k)

not_late_for_no_number : IsLateFor five_and_two_past (record { n = pos 0; m = 0 }) → ⊥
not_late_for_no_number h = let k = h.positive in omega (arith, k)
