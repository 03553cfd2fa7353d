-- Where every record is accepted, each is of a form, so its line is short and ends outside quotes. Then a live run takes
-- the records of `run`, each in the state in which `run` takes it.
use Rattle.std.proofs.Common.{◌≡◌, ◌∙◌, sym, ap, subst, refl, ℕ, suc, List, [], ◌∷◌, map, Bool, true, false}
use Rattle.std.proofs.Common.{if◌then◌else◌, inl, inr, ◌≤◌, None, Result, Ok, Err, nat_lt, length, arith}
use Rattle.std.proofs.lemmas.Bool.{le-leb}
use Rattle.csv.specs.Reading.{strip_bom}
use Rattle.csv.specs.declared.parser.State.TheVariants as st
use Rattle.sdm_rules.specs.declared.faults.EventFault.{EventFault}
use Rattle.sdm_rules.specs.declared.faults.EventFault.TheVariants.{TooMany}
use Rattle.sdm_rules.specs.declared.faults.EventCause.{EventCause}
use Rattle.sdm_rules.specs.declared.records.Event.{Event}
use Rattle.sdm_rules.specs.Records.{Journey, Turn, event_at, go_on, journey_from, most_records, turn_of}
use Rattle.sdm_rules.specs.Supervision.{Supervision}
use Rattle.sdm_formats.specs.Forms.{event_of}
use Rattle.sdm_events.specs.Journey.{Record, records_of}
use Rattle.sdm_live.specs.ByLines.{lines_of}
use Rattle.sdm_live.specs.Progress.{longest_line}
use Rattle.sdm_live_records.specs.Fields.{split_fields}
use Rattle.sdm_live_records.specs.Live.{turn_of_line}
use Rattle.sdm_live_laws.specs.SameRows.{AreOnLines, LawOfSameRows}
use Rattle.sdm_live_laws.specs.Turns.{line_answers, turns_taken}
use Rattle.sdm_live_laws.proofs.LineLengths.{written_short}
use Rattle.sdm_live_laws.proofs.LineRecords.{line_records}
use Rattle.sdm_live_laws.proofs.Marks.{mark_cases, marked, marked_lines, taken_unmarked}
use Rattle.sdm_live_laws.proofs.Scan.{records_are}
use Rattle.sdm_live_laws.proofs.TakenTurns.{after_turn, by_length}
use Rattle.sdm_live_laws.proofs.Unbroken.{AllUnbroken, unbroken}
use Rattle.sdm_live_laws.proofs.Written.{AreWritten, written}

-- the journey of records of which the first has a number
abbrev pub journey_at : ℕ → Supervision → List Record → Journey
journey_at n s records = journey_from (event_at event_of) n s records

abbrev pub IsAccepted : ℕ → Supervision → List Record → Type 0
IsAccepted n s records = (journey_at n s records).refused ≡ None

-- the first record is taken, and those after it are accepted
pub record IsFirstTaken (n : ℕ) (s : Supervision) (first : Record) (more : List Record) : Type 0 where
  pub turn : Turn
  pub takes : turn_of s (event_of first) ≡ Ok turn
  pub rest : IsAccepted (suc n) turn.after more
  pub turns : (journey_at n s (first ∷ more)).turns ≡ turn ∷ (journey_at (suc n) turn.after more).turns

module _ (n : ℕ) (s : Supervision) (first : Record) (more : List Record) where
  on : Supervision → Journey
  on t = journey_at (suc n) t more

  abbrev counted : Bool → Result Event EventFault
  counted b = if b then Err TooMany else event_of first

  taken_at : (r : Result Turn EventCause) → turn_of s (event_of first) ≡ r → (go_on n r on).refused ≡ None →
      (journey_at n s (first ∷ more)).turns ≡ (go_on n r on).turns → IsFirstTaken n s first more
  unfolding on
  taken_at (Ok t) is h turns = record { turn = t; takes = is; rest = h; turns = turns }
  taken_at (Err cause) is h turns = absurd cc

  by_count : (b : Bool) → (go_on n (turn_of s (counted b)) on).refused ≡ None →
      (journey_at n s (first ∷ more)).turns ≡ (go_on n (turn_of s (counted b)) on).turns → IsFirstTaken n s first more
  by_count true h turns = absurd cc
  by_count false h turns = taken_at (turn_of s (event_of first)) refl h turns

  pub first_taken : IsAccepted n s (first ∷ more) → IsFirstTaken n s first more
  unfolding on
  first_taken h = by_count (nat_lt most_records n) h refl

-- ---- what is taken is written so

taken_written : (s : Supervision) (fields : Record) (t : Turn) → turn_of s (event_of fields) ≡ Ok t → AreWritten fields
taken_written s fields t taken = by_event (event_of fields) refl taken
  where
    by_event : (r : Result Event EventFault) → event_of fields ≡ r → turn_of s r ≡ Ok t → AreWritten fields
    by_event (Ok e) is h = written fields e is
    by_event (Err fault) is h = absurd cc

accepted_unbroken : (records : List Record) (n : ℕ) (s : Supervision) → IsAccepted n s records → AllUnbroken records
accepted_unbroken [] n s h = tt
accepted_unbroken (x ∷ xs) n s h =
    let first = first_taken n s x xs h in
    ((taken_written s x first.turn first.takes).unbroken, accepted_unbroken xs (suc n) first.turn.after first.rest)

pub accepted_on_lines : (s : Supervision) (bytes : List ℕ) → IsAccepted 1 s (records_of bytes) → AreOnLines bytes
accepted_on_lines s bytes h =
    let text = strip_bom bytes in
    unbroken text st.StartRecord [] []
    (subst AllUnbroken (records_are text) (accepted_unbroken (records_of bytes) 1 s h))

-- ---- lines

-- where the journey of the fields of lines is accepted, its turns are those that are taken of the lines
abbrev TakesAll : List (List ℕ) → Type 0
TakesAll lines = (n : ℕ) (s : Supervision) → IsAccepted n s (map split_fields lines) →
    turns_taken (line_answers s lines) ≡ (journey_at n s (map split_fields lines)).turns

-- a line is answered as the record of fields is, where that is taken
abbrev pub IsTakenAlike : List ℕ → Record → Type 0
IsTakenAlike line fields = (s : Supervision) (t : Turn) → turn_of s (event_of fields) ≡ Ok t →
    (length line ≤ longest_line) × (turn_of_line s line ≡ turn_of s (event_of fields))

takes_first : (lines : List (List ℕ)) → TakesAll lines → (n : ℕ) (s : Supervision) (line : List ℕ) (fields : Record) →
    IsTakenAlike line fields → IsAccepted n s (fields ∷ map split_fields lines) →
    turns_taken (line_answers s (line ∷ lines)) ≡ (journey_at n s (fields ∷ map split_fields lines)).turns
takes_first lines ih n s line fields alike h =
    let first = first_taken n s fields (map split_fields lines) h in
    let same = alike s first.turn first.takes in
    ap (λ b. turns_taken (by_length s line lines b)) (le-leb (length line) longest_line same.0)
    ∙ (ap (λ r. turns_taken (after_turn s lines r)) (same.1 ∙ first.takes)
    ∙ (ap (λ ts. first.turn ∷ ts) (ih (suc n) first.turn.after first.rest) ∙ sym first.turns))

-- a line has the turn of its fields
pub alike_plain : (line : List ℕ) → IsTakenAlike line (split_fields line)
alike_plain line s t is =
    let short = written_short line (taken_written s (split_fields line) t is) in
    (omega (arith, short), ap (λ l. turn_of s (event_of (split_fields l))) (taken_unmarked s line t is))

takes_all : (lines : List (List ℕ)) → TakesAll lines
takes_all [] n s h = refl
takes_all (line ∷ lines) n s h =
    takes_first lines (λ n s h. takes_all lines n s h) n s line (split_fields line) (alike_plain line) h

-- ---- lines with a mark before them

-- a line that is a mark alone is refused, so no turn is taken of it
mark_alone : (s : Supervision) (lines : List (List ℕ)) →
    turns_taken (line_answers s (marked [] ∷ lines)) ≡ turns_taken (line_answers s lines)
unfolding strip_bom event_of
mark_alone s lines = refl

-- a mark that begins a line changes nothing of its fields, and makes it three bytes longer
pub alike_marked : (line : List ℕ) → IsTakenAlike (marked line) (split_fields line)
unfolding strip_bom
alike_marked line s t is =
    let short = written_short line (taken_written s (split_fields line) t is) in
    (omega (arith, short), refl)

-- the journey of the fields of lines, where it is accepted, beside the lines with a mark before them
abbrev TakesMarked : Supervision → List (List ℕ) → List (List ℕ) → Type 0
TakesMarked s with_mark lines = IsAccepted 1 s (map split_fields lines) →
    turns_taken (line_answers s with_mark) ≡ (journey_at 1 s (map split_fields lines)).turns

takes_marked : (s : Supervision) (rest : List ℕ) → TakesMarked s (lines_of (marked rest)) (lines_of rest)
takes_marked s rest = elim (marked_lines rest) [
  | inl alone ↦
      let A : List (List ℕ) → Type 0 = λ ls. TakesMarked s ls (lines_of rest) in
      subst A (sym alone) (λ h. mark_alone s (lines_of rest) ∙ takes_all (lines_of rest) 1 s h)
  | inr on ↦
      let A : List (List ℕ) → Type 0 = λ ls. TakesMarked s ls (lines_of rest) in
      let B : List (List ℕ) → Type 0 = λ ls. TakesMarked s (marked on.line ∷ on.more) ls in
      subst A (sym on.marked_are) (subst B (sym on.lines_are)
      (takes_first on.more (takes_all on.more) 1 s (marked on.line) (split_fields on.line) (alike_marked on.line)))
]

takes_bytes : (s : Supervision) (bytes : List ℕ) → TakesMarked s (lines_of bytes) (lines_of (strip_bom bytes))
takes_bytes s bytes = elim (mark_cases bytes) [
  | inl unmarked ↦
      let A : List ℕ → Type 0 = λ b. TakesMarked s (lines_of bytes) (lines_of b) in
      subst A (sym unmarked) (takes_all (lines_of bytes) 1 s)
  | inr m ↦
      let A : List ℕ → Type 0 = λ b. TakesMarked s (lines_of b) (lines_of (strip_bom bytes)) in
      let B : List ℕ → Type 0 = λ b. TakesMarked s (lines_of (marked m.rest)) (lines_of b) in
      subst A (sym m.whole) (subst B (sym m.after) (takes_marked s m.rest))
]

pub same_rows : LawOfSameRows
same_rows s bytes accepted =
    let records = line_records bytes (accepted_on_lines s bytes accepted) in
    takes_bytes s bytes (subst (IsAccepted 1 s) records accepted)
    ∙ sym (ap (λ records. (journey_at 1 s records).turns) records)
