-- A data part opens a state in which nothing is held, from which the law of live rows speaks; and whatever the outcome
-- says of the peer, what was handed over begins the whole text of the bytes that came, which is one answer to each line.
use Rattle.std.proofs.Common.{◌≡◌, ◌∙◌, sym, ap, subst, refl, inl, inr, ℕ, List, [], ◌++◌, append-nil, Option, Some, None}
use Rattle.std.proofs.Common.{append_assoc, drop}
use Rattle.sdm_rules.specs.Opening.{IsOpen}
use Rattle.sdm_rules.specs.Supervision.{Supervision}
use Rattle.sdm_report.specs.declared.outcome.Outcome.{Outcome}
use Rattle.sdm_report.specs.declared.outcome.Outcome.TheVariants as outcomes
use Rattle.sdm_data.specs.Division.{divide}
use Rattle.sdm_opening.specs.Openings.{IsOpeningOf}
use Rattle.sdm_run.proofs.RunData.{has_bands}
use Rattle.sdm_live.specs.Exchanges.{Along, History, came, sent}
use Rattle.sdm_live.specs.Progress.{due, whole}
use Rattle.sdm_live.specs.Taken.{Begins}
use Rattle.sdm_live.proofs.Along.{along_map}
use Rattle.sdm_live.proofs.DueLines.{due_end}
use Rattle.sdm_live_records.specs.Live.{live_rules}
use Rattle.sdm_live_laws.proofs.TakenTurns.{live_rows}
use Rattle.sdm_live_run.specs.Live.{IsAnsweredLive, IsDueAfter, IsLiveEnd, IsWholeAfter, IsWholeText, begun, due_of}
use Rattle.sdm_live_run.specs.Live.{whole_of}
use Rattle.sdm_live_run.specs.Rows.{AreLiveRowsSafe, IsPromisedAfter, IsPromisedFrom}
use Rattle.sdm_live_run.proofs.SameRun.{whole_text}

-- the whole text from a state on that a data part opens
promised_from : (data_part : List ℕ) (s : Supervision) → IsOpeningOf data_part s → (records : List ℕ) →
    IsPromisedFrom s records (whole_of s records)
promised_from data_part s o records = record {
  answers = whole_text s records;
  turns = live_rows s records
      (subst IsOpen (sym o.state) (record {
        bands = has_bands o.given.members o.train_and_track o.authority o.given.read;
        usable = o.accepted.0;
      }))
      (ap (λ s. s.commands) o.state);
}

-- what is due begins it
due_begins : (s : Supervision) (records : List ℕ) → Begins (due_of s records) (whole_of s records)
unfolding due_of whole_of
due_begins s records =
    let W : List ℕ → Type 0 = λ bytes. Begins (due live_rules (begun s) records) (whole live_rules (begun s) bytes) in
    subst W (append-nil records) (due_end live_rules (begun s) records [])

-- ---- by what is known of the text that was handed over, with the division of the bytes

-- nothing was handed over
nothing : (h k : History) (text : List ℕ) → sent k ≡ sent h ++ text → text ≡ [] → sent k ≡ sent h
nothing h k text sent_is none = sent_is ∙ ap (λ text. sent h ++ text) none ∙ append-nil (sent h)

module _ (h k : History) (bytes : List ℕ) (came_is : came k ≡ came h ++ bytes) where
  of_whole : (text : List ℕ) → Begins (sent k) (sent h ++ text) → (o : Option (ℕ × ℕ)) → divide bytes ≡ o →
      IsWholeAfter bytes text o → AreLiveRowsSafe h k
  of_whole text begins None is whole = absurd whole
  of_whole text begins (Some x) is (s, opens, whole) =
      let P : Option (ℕ × ℕ) → Type 0 = λ o. IsPromisedAfter bytes text o in
      let F : List ℕ → Type 0 = λ text. IsPromisedFrom s (drop x.1 bytes) text in
      inr (record {
        bytes = bytes;
        text = text;
        came_is = came_is;
        promised = subst P (sym is) (s, opens, subst F (sym whole) (promised_from _ s opens (drop x.1 bytes)));
        begins = begins;
      })

  of_due : (text : List ℕ) → sent k ≡ sent h ++ text → (o : Option (ℕ × ℕ)) → divide bytes ≡ o →
      IsDueAfter bytes text o → AreLiveRowsSafe h k
  of_due text sent_is None is none = inl (nothing h k text sent_is none)
  of_due text sent_is (Some x) is (inl before) = inl (nothing h k text sent_is before.1)
  of_due text sent_is (Some x) is (inr (s, opens, due)) =
      let records = drop x.1 bytes in
      let B : List ℕ → Type 0 = λ text. Begins text (sent h ++ whole_of s records) in
      let rest = due_begins s records in
      let begun : Begins (sent h ++ due_of s records) (sent h ++ whole_of s records) =
      (rest.0, ap (λ text. sent h ++ text) rest.1 ∙ sym (append_assoc (sent h) (due_of s records) rest.0)) in
      of_whole (whole_of s records) (subst B (sym (sent_is ∙ ap (λ text. sent h ++ text) due)) begun)
      (Some x) is (s, opens, refl)

-- ---- by the outcome

answered_rows : (h k : History) → IsAnsweredLive h k → AreLiveRowsSafe h k
answered_rows h k a = of_due h k a.bytes a.came_is a.text a.sent_is (divide a.bytes) refl a.due

cut_rows : (h k : History) (bytes text : List ℕ) → came k ≡ came h ++ bytes → IsWholeText bytes text →
    Begins (sent k) (sent h ++ text) → AreLiveRowsSafe h k
cut_rows h k bytes text came_is whole begins = of_whole h k bytes came_is text begins (divide bytes) refl whole

pub ended_rows : (outcome : Outcome) (h k : History) → IsLiveEnd h outcome k → AreLiveRowsSafe h k
ended_rows outcomes.Done h k e =
    let B : List ℕ → Type 0 = λ text. Begins text (sent h ++ e.text) in
    let begun : B (sent h ++ e.text) = ([], sym (append-nil (sent h ++ e.text))) in
    cut_rows h k e.bytes e.text e.came_is e.whole (subst B (sym e.sent_is) begun)
ended_rows outcomes.Usage h k e = absurd e
ended_rows outcomes.ReadFault h k e = answered_rows h k e
ended_rows outcomes.WriteFault h k e = cut_rows h k e.bytes e.text e.came_is e.whole e.begins
ended_rows outcomes.TooLong h k (inl e) = inl e.sent_is
ended_rows outcomes.TooLong h k (inr e) = answered_rows h k e.answered
ended_rows (outcomes.BadData fault) h k e = inl e.sent_is
ended_rows (outcomes.Refused fault) h k e = inl e.sent_is
ended_rows (outcomes.BadEvent number cause) h k e = absurd e
ended_rows outcomes.Memory h k e = inl e
ended_rows (outcomes.Undrivable cause) h k e = absurd e

pub rows_along : (a b : Option History) (outcome : Outcome) → Along a b (λ h k. IsLiveEnd h outcome k) →
    Along a b AreLiveRowsSafe
rows_along a b outcome ended =
    along_map a b (λ h k. IsLiveEnd h outcome k) AreLiveRowsSafe (λ h k e. ended_rows outcome h k e) ended
