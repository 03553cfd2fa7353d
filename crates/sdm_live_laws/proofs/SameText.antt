-- Where `run` accepts the bytes, each line is answered by the turn of its record, so the rows in the answers are its text.
use Rattle.std.proofs.Common.{◌≡◌, ◌∙◌, sym, ap, subst, refl, ℕ, suc, List, [], ◌∷◌, ◌++◌, map, inl, inr, arith, length}
use Rattle.std.proofs.lemmas.Bool.{le-leb}
use Rattle.csv.specs.Reading.{strip_bom}
use Rattle.sdm_rules.specs.Records.{row_of_turn}
use Rattle.sdm_rules.specs.Supervision.{Supervision}
use Rattle.sdm_formats.specs.FaultLines.{cause_text, form_text}
use Rattle.sdm_formats.specs.Forms.{event_of}
use Rattle.sdm_formats.specs.Text.{run_tells, told}
use Rattle.sdm_events.specs.Journey.{Record}
use Rattle.sdm_live.specs.ByLines.{lines_of}
use Rattle.sdm_live.specs.Progress.{longest_line}
use Rattle.sdm_live_records.specs.Fields.{split_fields}
use Rattle.sdm_live_records.specs.Live.{refused_text}
use Rattle.sdm_live_laws.specs.SameRows.{LawOfSameText, rows_in}
use Rattle.sdm_live_laws.specs.Turns.{answers_text, line_answers}
use Rattle.sdm_live_laws.proofs.LineRecords.{line_records}
use Rattle.sdm_live_laws.proofs.Marks.{mark_cases, marked, marked_lines}
use Rattle.sdm_live_laws.proofs.RowLines.{taken_found}
use Rattle.sdm_live_laws.proofs.SameRows.{IsAccepted, IsTakenAlike, accepted_on_lines, alike_marked, alike_plain}
use Rattle.sdm_live_laws.proofs.SameRows.{first_taken, journey_at}
use Rattle.sdm_live_laws.proofs.TakenTurns.{after_turn, by_length}

-- the rows in the answers to lines, from a state on
abbrev rows_for : Supervision → List (List ℕ) → List ℕ
rows_for s lines = rows_in (answers_text (line_answers s lines))

-- the text of `run` for records of which the first has a number
abbrev run_text : ℕ → Supervision → List Record → List ℕ
run_text n s records = told run_tells (journey_at n s records).turns

-- where the journey of the fields of lines is accepted, the rows are its text
abbrev TellsAll : List (List ℕ) → Type 0
TellsAll lines = (n : ℕ) (s : Supervision) → IsAccepted n s (map split_fields lines) →
    rows_for s lines ≡ run_text n s (map split_fields lines)

tells_first : (lines : List (List ℕ)) → TellsAll lines → (n : ℕ) (s : Supervision) (line : List ℕ) (fields : Record) →
    IsTakenAlike line fields → IsAccepted n s (fields ∷ map split_fields lines) →
    rows_for s (line ∷ lines) ≡ run_text n s (fields ∷ map split_fields lines)
tells_first lines ih n s line fields alike h =
    let first = first_taken n s fields (map split_fields lines) h in
    let same = alike s first.turn first.takes in
    let t = first.turn in
    ap (λ b. rows_in (answers_text (by_length s line lines b))) (le-leb (length line) longest_line same.0)
    ∙ (ap (λ r. rows_in (answers_text (after_turn s lines r))) (same.1 ∙ first.takes)
    ∙ (taken_found (row_of_turn t) (answers_text (line_answers t.after lines))
    ∙ (ap (λ text. run_tells t ++ text) (ih (suc n) t.after first.rest)
    ∙ sym (ap (λ ts. told run_tells ts) first.turns))))

tells_all : (lines : List (List ℕ)) → TellsAll lines
tells_all [] n s h = refl
tells_all (line ∷ lines) n s h =
    tells_first lines (λ n s h. tells_all lines n s h) n s line (split_fields line) (alike_plain line) h

-- a line that is a mark alone is refused, and the answer to it is no row
mark_alone : (s : Supervision) (lines : List (List ℕ)) → rows_for s (marked [] ∷ lines) ≡ rows_for s lines
unfolding strip_bom event_of refused_text cause_text form_text
mark_alone s lines = refl

abbrev TellsMarked : Supervision → List (List ℕ) → List (List ℕ) → Type 0
TellsMarked s with_mark lines = IsAccepted 1 s (map split_fields lines) →
    rows_for s with_mark ≡ run_text 1 s (map split_fields lines)

tells_marked : (s : Supervision) (rest : List ℕ) → TellsMarked s (lines_of (marked rest)) (lines_of rest)
tells_marked s rest = elim (marked_lines rest) [
  | inl alone ↦
      let A : List (List ℕ) → Type 0 = λ ls. TellsMarked s ls (lines_of rest) in
      subst A (sym alone) (λ h. mark_alone s (lines_of rest) ∙ tells_all (lines_of rest) 1 s h)
  | inr on ↦
      let A : List (List ℕ) → Type 0 = λ ls. TellsMarked s ls (lines_of rest) in
      let B : List (List ℕ) → Type 0 = λ ls. TellsMarked s (marked on.line ∷ on.more) ls in
      subst A (sym on.marked_are) (subst B (sym on.lines_are)
      (tells_first on.more (tells_all on.more) 1 s (marked on.line) (split_fields on.line) (alike_marked on.line)))
]

tells_bytes : (s : Supervision) (bytes : List ℕ) → TellsMarked s (lines_of bytes) (lines_of (strip_bom bytes))
tells_bytes s bytes = elim (mark_cases bytes) [
  | inl unmarked ↦
      let A : List ℕ → Type 0 = λ b. TellsMarked s (lines_of bytes) (lines_of b) in
      subst A (sym unmarked) (tells_all (lines_of bytes) 1 s)
  | inr m ↦
      let A : List ℕ → Type 0 = λ b. TellsMarked s (lines_of b) (lines_of (strip_bom bytes)) in
      let B : List ℕ → Type 0 = λ b. TellsMarked s (lines_of (marked m.rest)) (lines_of b) in
      subst A (sym m.whole) (subst B (sym m.after) (tells_marked s m.rest))
]

pub same_text : LawOfSameText
same_text s bytes accepted =
    let records = line_records bytes (accepted_on_lines s bytes accepted) in
    tells_bytes s bytes (subst (IsAccepted 1 s) records accepted)
    ∙ sym (ap (λ records. run_text 1 s records) records)
