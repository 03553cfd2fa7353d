-- Turn by turn: the text of the output is that of the turns, and the laws of flat carry order and stop over each of
-- them.
use Rattle.std.proofs.Common.{◌≡◌, ℕ, suc, Bool, false, List, [], ◌∷◌, ◌++◌, ◌<◌, Option, Some, None, pos, ◌∙◌, refl}
use Rattle.std.proofs.Common.{ap}
use Rattle.sdm_num.specs.Units.{notches_of_mm_s}
use Rattle.sdm_rules.specs.declared.faults.CycleFault.{CycleFault}
use Rattle.sdm_rules.specs.Machines.{InOrder}
use Rattle.sdm_rules.specs.Records.{time_fault}
use Rattle.sdm_rules.specs.Cells.{place_of_cell}
use Rattle.sdm_rules.specs.Curves.{exact}
use Rattle.sdm_rules.specs.Supervision.{whole_mm}
use Rattle.sdm_formats.specs.Lines.{lines_of}
use Rattle.sdm_formats.specs.Flat.{FlatSupervision, FlatLine, Output, flat_opening, flat_line, flat_row, flat_text}
use Rattle.sdm_formats.specs.Flat.{flat_output, flat_output_from, flat_go_on, flat_step, after_flat_line, flat_slopes}
use Rattle.sdm_supervisor.specs.Flats.{ebi_mm}
use Rattle.sdm_supervisor.proofs.FlatCurves.{shown_place}
use Rattle.sdm_supervisor.proofs.FlatFormula.{ebi_is}
use Rattle.sdm_supervisor.proofs.FlatFacts.{flat_machines, flat_stop}
use Rattle.sdm_run.specs.FlatRun.{FlatTurn, turn_and, turns_of_line, flat_turns_from, turns_of, text_of_turns}
use Rattle.sdm_run.specs.FlatRun.{AreFlatTurnsSafe, AreFlatRowsSafe}

-- ---- text

-- after a line that is read: its row's text and that of the turns that follow
turn_text : (n : ℕ) (s : FlatSupervision) (l : FlatLine) (o : Option CycleFault) (rest : FlatSupervision → Output)
    (turns : FlatSupervision → List FlatTurn) →
    ((t : FlatSupervision) → (rest t).text ≡ text_of_turns (turns t)) →
    (flat_go_on n s l o rest).text ≡ text_of_turns (turn_and s l o turns)
turn_text n s l (Some fault) rest turns h = refl
turn_text n s l None rest turns h = ap (λ (x : List ℕ). flat_text (flat_row s l) ++ x) (h (after_flat_line s l))

-- after a line, read or refused
line_text : (n : ℕ) (s : FlatSupervision) (o : Option FlatLine) (rest : FlatSupervision → Output)
    (turns : FlatSupervision → List FlatTurn) →
    ((t : FlatSupervision) → (rest t).text ≡ text_of_turns (turns t)) →
    (flat_step n s o rest).text ≡ text_of_turns (turns_of_line s o turns)
line_text n s None rest turns h = refl
line_text n s (Some l) rest turns h = turn_text n s l (time_fault s.last_time l.time) rest turns h

-- the text from any state on is that of the turns from it
text_from : (n : ℕ) (s : FlatSupervision) (lines : List (List ℕ)) →
    (flat_output_from n s lines).text ≡ text_of_turns (flat_turns_from s lines)
text_from n s [] = refl
text_from n s (bytes ∷ more) = line_text n s (flat_line bytes) _ _ (λ t. text_from (suc n) t more)

-- ---- order

-- from whatever state and commands in order, the turns are safe
abbrev AreAllSafe : (FlatSupervision → List FlatTurn) → Type 0
AreAllSafe turns =
    (t : FlatSupervision) (must may : Bool) → 0 < t.decel → InOrder must t.eb may → AreFlatTurnsSafe must may (turns t)

-- the row shows the EBI by the formula over the speed in mm/s
shown : (s : FlatSupervision) (l : FlatLine) → 0 < s.decel → (v : ℕ) → l.speed ≡ notches_of_mm_s v →
    (flat_row s l).ebi ≡ ebi_mm s.decel s.end v
shown s l some v is = shown_place s l ∙ (ap (λ (n : ℕ).
    whole_mm (exact (flat_slopes s.decel) (place_of_cell (pos s.end)) 0 n)) is ∙ ebi_is s.decel s.end v some)

-- after a line that is read the turns are safe
turn_order : (s : FlatSupervision) (l : FlatLine) (o : Option CycleFault) (must may : Bool)
    (turns : FlatSupervision → List FlatTurn) → AreAllSafe turns → 0 < s.decel → InOrder must s.eb may →
    AreFlatTurnsSafe must may (turn_and s l o turns)
turn_order s l (Some fault) must may turns h some order = tt
turn_order s l None must may turns h some order =
    let next = flat_machines s l some must may order in
    (record { order = next; stop = flat_stop s l some; ebi = shown s l some }, h (after_flat_line s l) _ _ some next)

-- after a line, read or refused
line_order : (s : FlatSupervision) (o : Option FlatLine) (must may : Bool) (turns : FlatSupervision → List FlatTurn) →
    AreAllSafe turns → 0 < s.decel → InOrder must s.eb may →
    AreFlatTurnsSafe must may (turns_of_line s o turns)
line_order s None must may turns h some order = tt
line_order s (Some l) must may turns h some order =
    turn_order s l (time_fault s.last_time l.time) must may turns h some order

-- from each state on the turns of all lines are safe
order_from : (lines : List (List ℕ)) → AreAllSafe (λ t. flat_turns_from t lines)
order_from [] t must may some order = tt
order_from (bytes ∷ more) t must may some order =
    line_order t (flat_line bytes) must may (λ u. flat_turns_from u more) (order_from more) some order

-- the rows of `flat` are safe: they are those of the turns from the opening
pub flat_rows_safe : (decel end : ℕ) (bytes : List ℕ) → 0 < decel → AreFlatRowsSafe decel end bytes
unfolding flat_output turns_of
flat_rows_safe decel end bytes some = record {
  text = text_from 1 (flat_opening decel end) (lines_of bytes);
  safe = order_from (lines_of bytes) (flat_opening decel end) false false some
      (record { needed = λ t. t; allowed = λ t. t });
}
