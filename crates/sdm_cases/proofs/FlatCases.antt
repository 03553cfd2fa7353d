-- The flat supervisor: 1 m/s² towards an end at 10 m.
use Rattle.std.proofs.Common.{◌≡◌, refl, ◌*◌}
use Rattle.std.specs.Prelude.{pos, true, false, Some, None, codes}
use Rattle.std.specs.Fmt.{digits}
use Rattle.sdm_rules.specs.declared.faults.EventCause.TheVariants.{Line}
use Rattle.sdm_rules.specs.Curves.{exact, stepped, exact_at, place_at, corner, arc, arc_back, back}
use Rattle.sdm_formats.specs.Input.{BadEvent}
use Rattle.sdm_formats.specs.Numbers.{read_int}
use Rattle.sdm_formats.specs.Flat.{flat_opening, flat_row, flat_after, flat_line, flat_text, flat_output}

-- at 2 m/s the curve is 2 m before the end; a tenth of a millimetre past it is an emergency
past_the_curve : flat_row (flat_opening 100 1_000) (record {
  time = 5;
  front = pos (80_001 * 54_000_000);
  speed =
      108_000;
}) ≡ record { time = 5; ebi = pos 8_000; covered = false; eb = true }
unfolding flat_row flat_after exact stepped exact_at place_at corner arc arc_back back
past_the_curve = refl

-- at the curve itself there is none
at_the_curve : flat_row (flat_opening 100 1_000) (record {
  time = 5;
  front = pos (80_000 * 54_000_000);
  speed =
      108_000;
}) ≡ record { time = 5; ebi = pos 8_000; covered = true; eb = false }
unfolding flat_row flat_after exact stepped exact_at place_at corner arc arc_back back
at_the_curve = refl

-- the time, the front end in mm and the speed in mm/s
a_line : flat_line (codes "5,8000,2000")
    ≡ Some (record { time = 5; front = pos (8_000 * 540_000_000); speed = 108_000 })
unfolding flat_line read_int
a_line = refl

-- a carriage return spoils the last field
carriage_return : flat_line (codes "5,8000,2000\r") ≡ None
unfolding flat_line read_int
carriage_return = refl

-- a row before a line that is not of the form due
refused_line : flat_output 100 1_000 (codes "0,0,0\n0,0\n") ≡ record {
  text = codes "0,10000,1,0\n";
  end = BadEvent 2 Line;
}
unfolding flat_output flat_line read_int flat_text digits flat_row flat_after exact stepped exact_at place_at corner arc
    arc_back back
refused_line = refl
