-- The journey from the number 7: its first numbers, readings and reaction, worked by hand.
use Rattle.std.proofs.Common.{◌≡◌, refl, ◌*◌, ◌+◌}
use Rattle.std.specs.Prelude.{pos, negsuc, true, [], ◌∷◌, map}
use Rattle.sdm_num.specs.Units.{notches_of_mm_s, millimetre}
use Rattle.sdm_rules.specs.Reaction.{times_of, build_up, v_bec, d_bec}
use Rattle.sdm_formats.specs.Trial.{number_at, reading_in_cycle}

first_numbers : map (number_at 7) (1 ∷ 2 ∷ 3 ∷ []) ≡ 58_988 ∷ 4_085 ∷ 19_570 ∷ []
first_numbers = refl

first_reading : reading_in_cycle 7 1 ≡ record {
  time = 5;
  est = pos (4_179_760 * millimetre);
  min = pos (4_174_760 * millimetre);
  max =
      pos (4_184_760 * millimetre);
  speed = notches_of_mm_s 14_987;
  accel = negsuc 45;
  under = 27_000;
}
first_reading = refl

-- with 0.5 m/s of under-reading it takes 3 s at 15.487 m/s, since it brakes already
first_reaction_speed : v_bec (build_up (times_of 20 true 30 40 true) (notches_of_mm_s 14_987 + 27_000) (negsuc 45)) 0
    ≡ notches_of_mm_s 15_487
first_reaction_speed = refl

first_reaction_distance : d_bec
    (build_up (times_of 20 true 30 40 true) (notches_of_mm_s 14_987 + 27_000) (negsuc 45)) 0 ≡
    46_461 * millimetre
first_reaction_distance = refl

-- the third gains 0.27 m/s² for 3 s: from 20.07 to 20.88 m/s, 61.425 m
third_reaction_distance : d_bec (build_up (times_of 20 true 30 40 true) (notches_of_mm_s 19_570 + 27_000) (pos 27)) 0
    ≡ 61_425 * millimetre
third_reaction_distance = refl
