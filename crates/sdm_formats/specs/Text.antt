-- The text of rows, of what is shown of a reading, and of turns (own).
use Rattle.std.specs.Prelude.{ℕ, ℤ, Bool, List, [], ◌∷◌, ◌++◌, Option, Some, None, codes, decimal, if◌then◌else◌}
use Rattle.std.specs.Fmt.{signed_decimal}
use Rattle.std.specs.List.{join_with_byte}
use Rattle.sdm_rules.specs.declared.commands.State.{State}
use Rattle.sdm_rules.specs.declared.commands.State.TheVariants.{C, T, R}
use Rattle.sdm_rules.specs.declared.commands.Status.{Status}
use Rattle.sdm_rules.specs.declared.commands.Status.TheVariants.{N, I, O, W, X}
use Rattle.sdm_rules.specs.declared.display.Display.{Display}
use Rattle.sdm_rules.specs.declared.display.Shown.{Shown}
use Rattle.sdm_rules.specs.declared.records.Event.{Event}
use Rattle.sdm_rules.specs.declared.records.Event.TheVariants as record_kinds
use Rattle.sdm_rules.specs.declared.rows.Row.{Row}
use Rattle.sdm_rules.specs.declared.targets.TargetKind.{TargetKind}
use Rattle.sdm_rules.specs.declared.targets.TargetKind.TheVariants.{Mrsp, Loa, Eoa, Svl}
use Rattle.sdm_rules.specs.Display.{display_of}
use Rattle.sdm_rules.specs.Records.{Turn, row_of_turn}
use Rattle.sdm_rules.specs.Supervision.{Supervision}

-- the letter of a type of speed and distance monitoring
abbrev pub state_text : State → List ℕ
state_text C = codes "C"
state_text T = codes "T"
state_text R = codes "R"

-- the letter of a status
abbrev pub status_text : Status → List ℕ
status_text N = codes "N"
status_text I = codes "I"
status_text O = codes "O"
status_text W = codes "W"
status_text X = codes "X"

-- the text of a flag: 1 or 0
abbrev pub flag_text : Bool → List ℕ
flag_text b = if b then codes "1" else codes "0"

-- the text of a place in mm; `-` where there is none
abbrev pub place_text : Option ℤ → List ℕ
place_text None = codes "-"
place_text (Some z) = signed_decimal z

-- the fields of a row in order: time in ds, the ceiling in km/h, places in mm
abbrev pub fields_of : Row → List (List ℕ)
fields_of r =
    decimal r.time ∷ state_text r.state ∷ status_text r.held.status ∷ flag_text r.held.tco ∷ flag_text r.held.sb
    ∷ flag_text r.held.eb ∷ flag_text r.covered
    ∷ decimal r.ceiling ∷ place_text r.ebi ∷ place_text r.sbi ∷ place_text r.warning ∷ place_text r.permitted
    ∷ place_text r.indication ∷ []

-- the line of fields, with commas between them and a line feed at the end
abbrev pub text_line : List (List ℕ) → List ℕ
text_line fields = join_with_byte 44 fields ++ codes "\n"

-- the text of a row
unfoldable pub row_text : Row → List ℕ
row_text r = text_line (fields_of r)

-- the text of a row; empty where there is none
abbrev pub text_of_row : Option Row → List ℕ
text_of_row None = []
text_of_row (Some row) = row_text row

-- ---- what is shown of a reading

-- the letter of a kind of target
abbrev pub kind_text : TargetKind → List ℕ
kind_text Mrsp = codes "M"
kind_text Loa = codes "L"
kind_text Eoa = codes "E"
kind_text Svl = codes "S"

-- the fields of the target that is shown: its kind, and its distance in mm; `-` and `-` where there is none
abbrev pub shown_fields : Option Shown → List (List ℕ)
shown_fields None = codes "-" ∷ codes "-" ∷ []
shown_fields (Some shown) = kind_text shown.kind ∷ signed_decimal shown.distance ∷ []

-- the text of what is shown: time in ds, speeds in km/h, and the target
unfoldable pub display_text : Display → List ℕ
display_text d =
    text_line (decimal d.time ∷ decimal d.permitted ∷ decimal d.sbi ∷ decimal d.ebi ∷ decimal d.release
    ∷ shown_fields d.shown)

-- what is shown of an event in a state: of a reading a line
abbrev pub text_shown : Supervision → Event → List ℕ
text_shown s (record_kinds.Read r) = display_text (display_of s r)
text_shown s (record_kinds.Authority a) = []
text_shown s (record_kinds.Calculated eoa svl trip) = []
text_shown s (record_kinds.Restrict r) = []
text_shown s (record_kinds.Revoke id) = []

-- ---- turns

-- the text of turns, one after the other, given the text of each
abbrev pub told : (Turn → List ℕ) → List Turn → List ℕ
told tell [] = []
told tell (t ∷ ts) = tell t ++ told tell ts

-- what `run` writes for a turn: the text of its row
abbrev pub run_tells : Turn → List ℕ
run_tells t = text_of_row (row_of_turn t)

-- what `display` writes for a turn: what is shown of its reading in the state after it
abbrev pub display_tells : Turn → List ℕ
display_tells t = text_shown t.after t.event
