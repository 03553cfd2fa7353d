-- The supervisor of `flat`: one brake curve on a level track, with one band, one deceleration, and an end (own).
use Rattle.std.specs.Prelude.{ℕ, suc, ℤ, pos, negsuc, Bool, false, not, ◌&&◌, ◌||◌, List, [], ◌∷◌, ◌++◌, Option, Some}
use Rattle.std.specs.Prelude.{None, Result, Ok, Err, ◌*◌, decimal, nat_lt, int_lt, unsigned_abs}
use Rattle.std.specs.Fmt.{signed_decimal}
use Rattle.sdm_num.specs.Units.{place_of_mm, notches_of_mm_s, millimetre}
use Rattle.sdm_num.specs.Fractions.{Fraction}
use Rattle.sdm_rules.specs.declared.faults.FieldFault.{FieldFault}
use Rattle.sdm_rules.specs.declared.faults.EventCause.TheVariants.{Line}
use Rattle.sdm_rules.specs.declared.faults.CycleFault.{CycleFault}
use Rattle.sdm_rules.specs.declared.motions.Start.{Start}
use Rattle.sdm_rules.specs.Cells.{place_of_cell}
use Rattle.sdm_rules.specs.Slopes.{Slopes}
use Rattle.sdm_rules.specs.Limits.{CurvePlaces, computed, exact_places}
use Rattle.sdm_rules.specs.Triggers.{is_past}
use Rattle.sdm_rules.specs.Supervision.{whole_mm}
use Rattle.sdm_rules.specs.Machines.{InOrder}
use Rattle.sdm_rules.specs.Records.{time_fault}
use Rattle.sdm_rules.specs.Stop.{StopsBy}
use Rattle.sdm_formats.specs.declared.flat_rows.FlatRow.{FlatRow}
use Rattle.sdm_formats.specs.Numbers.{read_int}
use Rattle.sdm_formats.specs.Lines.{lines_of, comma_fields}
use Rattle.sdm_formats.specs.Input.{End, Done, BadEvent}
use Rattle.sdm_formats.specs.Text.{flag_text, text_line}

-- ---- the curve

-- the slopes of a deceleration of `a` cm/s², for q = 100
abbrev pub flat_slopes : ℕ → Slopes
flat_slopes a = record { q = 100; uppers = []; slope = λ band cell. 2_000_000_000 * a }

-- a line of the input of `flat`
pub record FlatLine : Type 0 where
  pub time : ℕ  -- ds
  pub front : ℤ  -- front end, grains
  pub speed : ℕ  -- notches

-- what the flat supervisor holds
pub record FlatSupervision : Type 0 where
  pub decel : ℕ  -- cm/s²
  pub end : ℕ  -- cm
  pub last_time : Option ℕ  -- ds
  pub eb : Bool

-- the flat supervisor before the first line: no time and no command
abbrev pub flat_opening : ℕ → ℕ → FlatSupervision
flat_opening decel end = record { decel = decel; end = end; last_time = None; eb = false }

-- the curve's place at the line's speed, by some way to find places
abbrev pub flat_place : CurvePlaces → FlatSupervision → FlatLine → Fraction
flat_place P s l = P (flat_slopes s.decel) (place_of_cell (pos s.end)) 0 l.speed

-- the front end is past the end
abbrev pub is_past_flat_end : FlatSupervision → FlatLine → Bool
is_past_flat_end s l = int_lt (place_of_cell (pos s.end)) l.front

-- an emergency: moving past the curve, which is taken so many grains earlier, or past the end
abbrev pub is_flat_emergency : CurvePlaces → ℕ → FlatSupervision → FlatLine → Bool
is_flat_emergency P shift s l = (nat_lt 0 l.speed && is_past shift l.front (flat_place P s l)) || is_past_flat_end s l

-- the emergency command, from the one that is held: it is released at standstill
unfoldable pub flat_after : CurvePlaces → ℕ → FlatSupervision → Bool → FlatLine → Bool
flat_after P shift s held l = is_flat_emergency P shift s l || (held && nat_lt 0 l.speed)

-- the row of a line of `flat`
unfoldable pub flat_row : FlatSupervision → FlatLine → FlatRow
flat_row s l = record {
  time = l.time;
  ebi = whole_mm (flat_place exact_places s l);
  covered = not (is_past 0 l.front (flat_place computed s l));
  eb = flat_after computed 0 s s.eb l;
}

-- the flat supervisor after an accepted line
abbrev pub after_flat_line : FlatSupervision → FlatLine → FlatSupervision
after_flat_line s l = record s { last_time = Some l.time; eb = (flat_row s l).eb }

-- commands in order stay in order over the line: of the exact machine, of the supervisor, whose new command is `eb`,
-- and of the machine whose curve is one millimetre earlier
abbrev pub KeepsFlatOrder : FlatSupervision → FlatLine → Bool → Type 0
KeepsFlatOrder s l eb = (must may : Bool) → InOrder must s.eb may →
    InOrder (flat_after exact_places 0 s must l) eb (flat_after exact_places millimetre s may l)

-- the start of motions from a line: they brake at once
abbrev pub flat_start : FlatLine → Start
flat_start l = record { front = l.front; speed = l.speed; accel1 = 0; accel2 = 0; traction = 0; berem = 0 }

-- every motion from the line stops by the end
abbrev pub StopsByFlatEnd : FlatSupervision → FlatLine → Type 0
StopsByFlatEnd s l = StopsBy (flat_slopes s.decel) (flat_start l) (place_of_cell (pos s.end))

-- ---- its input

-- the rest with the number of a field, if it is accepted
abbrev pub with_field : Result ℤ FieldFault → (ℤ → Option FlatLine) → Option FlatLine
with_field (Err fault) rest = None
with_field (Ok n) rest = rest n

-- the line of three fields: time in ds, front end in mm, speed in mm/s
abbrev pub flat_line_of : List (List ℕ) → Option FlatLine
flat_line_of (time ∷ front ∷ speed ∷ []) =
    with_field (read_int time (pos 0) (pos 100_000_000)) (λ time.
    with_field (read_int front (negsuc 9_999_999) (pos 110_000_000)) (λ front.
    with_field (read_int speed (pos 0) (pos 138_888)) (λ speed.
    Some (record {
      time = unsigned_abs time;
      front = place_of_mm front;
      speed =
          notches_of_mm_s (unsigned_abs speed);
    }))))
flat_line_of _ = None

-- a line of the input, if it has the right form
unfoldable pub flat_line : List ℕ → Option FlatLine
flat_line bytes = flat_line_of (comma_fields bytes)

-- ---- its output

-- the text of a row of `flat`
unfoldable pub flat_text : FlatRow → List ℕ
flat_text r = text_line (decimal r.time ∷ signed_decimal r.ebi ∷ flag_text r.covered ∷ flag_text r.eb ∷ [])

-- the text that a command writes before its end, and the end
pub record Output : Type 0 where
  pub text : List ℕ
  pub end : End

-- the output from a line that was read on: the rest follows only where the line is accepted
abbrev pub flat_go_on : ℕ → FlatSupervision → FlatLine → Option CycleFault → (FlatSupervision → Output) → Output
flat_go_on n s l (Some fault) rest = record { text = []; end = BadEvent n Line }
flat_go_on n s l None rest =
    let later = rest (after_flat_line s l) in
    record later { text = flat_text (flat_row s l) ++ later.text }

-- the output from a line on
abbrev pub flat_step : ℕ → FlatSupervision → Option FlatLine → (FlatSupervision → Output) → Output
flat_step n s None rest = record { text = []; end = BadEvent n Line }
flat_step n s (Some l) rest = flat_go_on n s l (time_fault s.last_time l.time) rest

-- the output for lines, of which the first has the number `n`
abbrev pub flat_output_from : ℕ → FlatSupervision → List (List ℕ) → Output
flat_output_from n s [] = record { text = []; end = Done }
flat_output_from n s (line ∷ lines) = flat_step n s (flat_line line) (λ t. flat_output_from (suc n) t lines)

-- the output of `flat` for the bytes of its input
unfoldable pub flat_output : ℕ → ℕ → List ℕ → Output
flat_output decel end bytes = flat_output_from 1 (flat_opening decel end) (lines_of bytes)
