-- Where `run` accepts the bytes, its data part opens the state from which the live run answers, so the law of the same
-- text speaks of both.
use Rattle.std.proofs.Common.{◌≡◌, ◌∙◌, sym, ap, subst, refl, ℕ, List, drop, inl, inr, length}
use Rattle.std.proofs.Common.{Option, Some, None, Result, Ok, Bool, true, false, nat_lt}
use Rattle.std.specs.Prelude.{MatchBool, []}
use Rattle.toml.specs.Data.{Members}
use Rattle.sdm_rules.specs.declared.authorities.Authority.{Authority}
use Rattle.sdm_rules.specs.declared.faults.EventCause.{EventCause}
use Rattle.sdm_rules.specs.Data.{TrainAndTrack}
use Rattle.sdm_rules.specs.Records.{Turn}
use Rattle.sdm_rules.specs.Supervision.{Supervision, opening}
use Rattle.sdm_formats.specs.declared.faults.DataFault.{DataFault}
use Rattle.sdm_formats.specs.Flat.{Output}
use Rattle.sdm_formats.specs.Input.{End, IsAfterData, IsAfterDivision, IsAfterDocument, end_of_journey, most_bytes}
use Rattle.sdm_formats.specs.Input as ends
use Rattle.sdm_formats.specs.Text.{run_tells, told}
use Rattle.sdm_report.specs.declared.outcome.Outcome.{Outcome}
use Rattle.sdm_report.specs.declared.outcome.Outcome.TheVariants as outcomes
use Rattle.sdm_data.specs.Division.{divide}
use Rattle.sdm_events.specs.Journey.{records_of}
use Rattle.sdm_run.specs.declared.words.Command.TheVariants.{Run}
use Rattle.sdm_run.specs.Commands.{IsOutputOf}
use Rattle.sdm_run.specs.Journeys.{run_reader}
use Rattle.sdm_live.specs.ByLines.{lines_of}
use Rattle.sdm_live.specs.Exchanges.{Along, History}
use Rattle.sdm_live.proofs.Along.{along_map}
use Rattle.sdm_live_laws.specs.SameRows.{rows_in, run_journey}
use Rattle.sdm_live_laws.specs.Turns.{answers_text, line_answers}
use Rattle.sdm_live_laws.proofs.SameText.{same_text}
use Rattle.sdm_live_laws.proofs.TakenTurns.{live_text}
use Rattle.sdm_live_run.specs.Live.{IsLiveEnd, IsWholeAfter, IsWholeLive, begun, whole_of}
use Rattle.sdm_live_run.specs.SameRun.{IsRunLive}

-- an end that is Done is of a journey in which nothing is refused
all_taken : (refused : Option (ℕ × EventCause)) → end_of_journey refused ≡ ends.Done → refused ≡ None
all_taken None is = refl
all_taken (Some (n, cause)) is = absurd cc

-- the whole text from a state on, in the words of answers
pub whole_text : (s : Supervision) (rest : List ℕ) → whole_of s rest ≡ answers_text (line_answers s (lines_of rest))
unfolding whole_of
whole_text s rest = live_text (begun s) rest

module _ (text : List ℕ) (turns : List Turn) (end : End) (done : end ≡ ends.Done) where
  -- from accepted data on
  after_opening : (s : Supervision) (rest : List ℕ) (d : TrainAndTrack) (a : Authority) → s ≡ opening d a →
      text ≡ whole_of s rest → IsAfterData run_reader turns end (records_of rest) (Ok (d, a)) →
      rows_in text ≡ told run_tells turns
  after_opening s rest d a state is (inl opened) =
      let taken : (run_journey (opening d a) rest).refused ≡ None =
      all_taken (run_journey (opening d a) rest).refused (sym opened.end_is ∙ done) in
      ap rows_in (is ∙ whole_text s rest)
      ∙ same_text s rest (subst (λ (t : Supervision). (run_journey t rest).refused ≡ None) (sym state) taken)
      ∙ ap (λ (t : Supervision). told run_tells (run_journey t rest).turns) state
      ∙ ap (λ (ts : List Turn). told run_tells ts) (sym opened.turns_are)
  after_opening s rest d a state is (inr refused) =
      let other : ends.Refused refused.0 ≡ ends.Done = sym refused.3 ∙ done in absurd cc

  -- from the division on
  after_division : (bytes : List ℕ) (o : Option (ℕ × ℕ)) → IsWholeAfter bytes text o →
      IsAfterDivision run_reader turns end bytes o → rows_in text ≡ told run_tells turns
  after_division bytes None whole run = absurd whole
  after_division bytes (Some x) whole run =
      let opens = whole.1 in
      let rest = drop x.1 bytes in
      let D : Option Members → Type 0 = λ o. IsAfterDocument run_reader turns end (records_of rest) o in
      let R : Result (TrainAndTrack × Authority) DataFault → Type 0 = λ r.
      IsAfterData run_reader turns end (records_of rest) r in
      after_opening whole.0 rest opens.train_and_track opens.authority opens.state whole.2
      (subst R opens.given.read (subst D opens.given.document run))

-- an input that is not too long
short : (b : Bool) (turns : List Turn) (end : End) (D : Type 0) →
    MatchBool b ((turns ≡ []) × (end ≡ ends.TooLong)) D → end ≡ ends.Done → D
short true turns end D h done = let other : ends.TooLong ≡ ends.Done = sym h.1 ∙ done in absurd cc
short false turns end D h done = h

-- the rows in the whole text are the text of `run`, where that accepts the bytes
rows_of_run : (bytes text : List ℕ) → IsWholeAfter bytes text (divide bytes) → (output : Output) →
    IsOutputOf Run bytes output → output.end ≡ ends.Done → rows_in text ≡ output.text
rows_of_run bytes text whole output is done =
    after_division text is.turns output.end done bytes (divide bytes) whole
    (short (nat_lt most_bytes (length bytes)) is.turns output.end _ is.run done)
    ∙ sym is.text_is

run_live : (h k : History) → IsWholeLive h k → IsRunLive h k
run_live h k w = record {
  bytes = w.bytes;
  text = w.text;
  came_is = w.came_is;
  sent_is = w.sent_is;
  rows = rows_of_run w.bytes w.text w.whole;
}

pub run_along : (a b : Option History) (outcome result : Outcome) → result ≡ outcome →
    Along a b (λ h k. IsLiveEnd h outcome k) → result ≡ outcomes.Done → Along a b IsRunLive
run_along a b outcome result same ended done =
    let E : Outcome → Type 0 = λ o. Along a b (λ h k. IsLiveEnd h o k) in
    along_map a b IsWholeLive IsRunLive run_live (subst E (sym same ∙ done) ended)
