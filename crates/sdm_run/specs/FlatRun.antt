-- What the rows of `flat` promise, over the whole list of its lines (own).
use Rattle.std.specs.Prelude.{◌≡◌, ℕ, Bool, false, IsTrue, List, [], ◌∷◌, ◌++◌, Option, Some, None}
use Rattle.sdm_num.specs.Units.{millimetre, notches_of_mm_s}
use Rattle.sdm_rules.specs.declared.faults.CycleFault.{CycleFault}
use Rattle.sdm_rules.specs.Limits.{exact_places}
use Rattle.sdm_rules.specs.Machines.{InOrder}
use Rattle.sdm_rules.specs.Records.{time_fault}
use Rattle.sdm_formats.specs.declared.flat_rows.FlatRow.{FlatRow}
use Rattle.sdm_formats.specs.Lines.{lines_of}
use Rattle.sdm_formats.specs.Flat.{FlatSupervision, FlatLine, flat_opening, flat_line, flat_row, flat_after}
use Rattle.sdm_formats.specs.Flat.{after_flat_line, flat_text, flat_output, StopsByFlatEnd}
use Rattle.sdm_supervisor.specs.Flats.{ebi_mm}

-- an accepted line and the state that it meets
pub record FlatTurn : Type 0 where
  pub before : FlatSupervision
  pub line : FlatLine

-- the turn, and then those of the rest
abbrev pub turn_and : FlatSupervision → FlatLine → Option CycleFault → (FlatSupervision → List FlatTurn) → List FlatTurn
turn_and s l (Some fault) rest = []
turn_and s l None rest = record { before = s; line = l } ∷ rest (after_flat_line s l)

-- the turn of a line that could be read; none of the rest where it could not
abbrev pub turns_of_line : FlatSupervision → Option FlatLine → (FlatSupervision → List FlatTurn) → List FlatTurn
turns_of_line s None rest = []
turns_of_line s (Some l) rest = turn_and s l (time_fault s.last_time l.time) rest

-- the turns of lines up to the first that is refused
abbrev pub flat_turns_from : FlatSupervision → List (List ℕ) → List FlatTurn
flat_turns_from s [] = []
flat_turns_from s (bytes ∷ more) = turns_of_line s (flat_line bytes) (λ t. flat_turns_from t more)

-- the turns of an input
unfoldable pub turns_of : ℕ → ℕ → List ℕ → List FlatTurn
turns_of decel end bytes = flat_turns_from (flat_opening decel end) (lines_of bytes)

-- the row of a turn
abbrev pub flat_row_of_turn : FlatTurn → FlatRow
flat_row_of_turn t = flat_row t.before t.line

-- the text of the rows, one after the other
abbrev pub text_of_turns : List FlatTurn → List ℕ
text_of_turns [] = []
text_of_turns (t ∷ ts) = flat_text (flat_row_of_turn t) ++ text_of_turns ts

-- the command of the exact machine after a turn, from the one that it holds
abbrev pub flat_must_after_turn : FlatTurn → Bool → Bool
flat_must_after_turn t held = flat_after exact_places 0 t.before held t.line

-- the command of the machine whose curve is one millimetre earlier, from the one that it holds
abbrev pub flat_may_after_turn : FlatTurn → Bool → Bool
flat_may_after_turn t held = flat_after exact_places millimetre t.before held t.line

-- for a whole speed in mm/s the row shows END - v² / (2A), rounded down to a millimetre
abbrev pub IsEbiShown : FlatTurn → Type 0
IsEbiShown t =
    (v : ℕ) → t.line.speed ≡ notches_of_mm_s v → (flat_row_of_turn t).ebi ≡ ebi_mm t.before.decel t.before.end v

-- from a covered row every motion stops by the end
abbrev pub IsStopCovered : FlatTurn → Type 0
IsStopCovered t = IsTrue (flat_row_of_turn t).covered → StopsByFlatEnd t.before t.line

-- what is promised of a turn before which the exact machine holds `must` and the early one `may`: after it the three
-- emergency commands stand in order
pub record IsFlatTurnSafe (must may : Bool) (t : FlatTurn) : Type 0 where
  pub order : InOrder (flat_must_after_turn t must) (flat_row_of_turn t).eb (flat_may_after_turn t may)
  pub stop : IsStopCovered t
  pub ebi : IsEbiShown t

-- each turn is safe, one after the other
abbrev pub AreFlatTurnsSafe : Bool → Bool → List FlatTurn → Type 0
AreFlatTurnsSafe must may [] = Unit {0}
AreFlatTurnsSafe must may (t ∷ ts) = IsFlatTurnSafe must may t ×
    AreFlatTurnsSafe (flat_must_after_turn t must) (flat_may_after_turn t may) ts

-- the rows that are written are those of the turns, each of which is safe, from no command held on
pub record AreFlatRowsSafe (decel end : ℕ) (bytes : List ℕ) : Type 0 where
  pub text : (flat_output decel end bytes).text ≡ text_of_turns (turns_of decel end bytes)
  pub safe : AreFlatTurnsSafe false false (turns_of decel end bytes)
