-- What the laws of live runs say of texts that have bytes, drawn from their statements alone.
use Rattle.std.proofs.Common.{◌≡◌, refl, List, ℕ, [], ◌∷◌, codes, None}
use Rattle.csv.specs.Reading.{strip_bom}
use Rattle.sdm_rules.specs.Supervision.{Supervision}
use Rattle.sdm_formats.specs.FaultLines.{cause_text, form_text}
use Rattle.sdm_formats.specs.Forms.{event_of}
use Rattle.sdm_formats.specs.Text.{run_tells, told}
use Rattle.sdm_events.specs.Journey.{records_of}
use Rattle.sdm_live.specs.ByLines.{lines_of}
use Rattle.sdm_live.specs.Progress.{whole}
use Rattle.sdm_live_records.specs.Live.{live_rules, refused_text}
use Rattle.sdm_live_laws.specs.SameRows.{LawOfLineRecords, LawOfSameRows, LawOfSameText, rows_in, run_journey}
use Rattle.sdm_live_laws.specs.Turns.{LawOfLiveText, answers_text, line_answers, live_turns}
use Rattle.sdm_live_run.specs.Live.{begun}

-- two answers to two lines, whatever the state
two_answers : LawOfLiveText → (s : Supervision) → whole live_rules (begun s) (codes "go\nstop")
    ≡ codes "refused: unknown kind\nrefused: unknown kind\n"
unfolding strip_bom event_of refused_text cause_text form_text
two_answers law s = law (begun s) (codes "go\nstop")

-- two records on two lines
two_records : LawOfLineRecords → records_of (codes "revoke,7\nread,5\n")
    ≡ (codes "revoke" ∷ codes "7" ∷ []) ∷ (codes "read" ∷ codes "5" ∷ []) ∷ []
unfolding strip_bom
two_records law = law (codes "revoke,7\nread,5\n") refl

-- an authority, where it is accepted: its turn is that of `run`, and the rows are its text
abbrev accepted : List ℕ
accepted = codes "end,100000,100000,0\nread,0,0,0,0,0,0,0\n"

same_turns : LawOfSameRows → (s : Supervision) → (run_journey s accepted).refused ≡ None →
    live_turns s accepted ≡ (run_journey s accepted).turns
same_turns law s taken = law s accepted taken

same_rows : LawOfSameText → (s : Supervision) → (run_journey s accepted).refused ≡ None →
    rows_in (answers_text (line_answers s (lines_of accepted))) ≡ told run_tells (run_journey s accepted).turns
same_rows law s taken = law s accepted taken
