-- The output of `certify` holds on the map that it begins with: an input has one run, so it is enough to name one.
use Rattle.std.proofs.Common.{◌≡◌, ℕ, ◌≤◌, ◌++◌, List, Option, Some, None, take, drop, length, refl, ap, ◌∙◌, sym, subst}
use Rattle.std.proofs.Common.{inl}
use Rattle.std.specs.Prelude.{IsTrue}
use Rattle.sdm_rules.specs.declared.data.SlopeKind.TheVariants.{Safe}
use Rattle.sdm_rules.specs.declared.faults.EventCause.{EventCause}
use Rattle.sdm_rules.specs.Data.{TrainAndTrack}
use Rattle.sdm_rules.specs.Decelerations.{slopes_of}
use Rattle.sdm_rules.specs.Records.{Journey, Turn}
use Rattle.sdm_rules.specs.Supervision.{Supervision, opening}
use Rattle.sdm_formats.specs.Flat.{Output}
use Rattle.sdm_formats.specs.Input.{most_bytes, IsRun, journey_of}
use Rattle.sdm_formats.specs.Input as ends
use Rattle.sdm_io.specs.Told.{Told}
use Rattle.sdm_certify.specs.ReadBack.{IsHeldText, IsReadBack}
use Rattle.sdm_certify.proofs.HeldTexts.{certified_text, held_text}
use Rattle.sdm_data.specs.Division.{divide}
use Rattle.sdm_events.specs.Journey.{records_of}
use Rattle.sdm_opening.specs.Openings.{IsOpeningOf}
use Rattle.sdm_run.specs.Certifying.{AreCertificatesHeld, IsCertifyOutput, certificates, certified_by, certified_turns}
use Rattle.sdm_run.specs.Certifying.{map_before, safe_map_text}
use Rattle.sdm_run.specs.Journeys.{run_reader}
use Rattle.sdm_run.specs.RunParts.{AreTurnsHeld, IsHeadReadBack, IsHeldBy, IsHeldRun}
use Rattle.sdm_run.specs.Shapes.{shape_of}
use Rattle.sdm_run.specs.declared.tellers.Teller.{Teller}
use Rattle.sdm_run.specs.declared.tellers.Teller.TheVariants.{Rows, Displays, Causes, Certificates}
use Rattle.sdm_run.specs.declared.words.Command.{Command}
use Rattle.sdm_run.specs.declared.words.Command.TheVariants.{Certify}
use Rattle.sdm_run.proofs.HeldRecords.{turns_of}
use Rattle.sdm_run.proofs.HeldRuns.{HaveData, are_writable, certified_data, have_data, texts_are, written_speeds}
use Rattle.sdm_run.proofs.OneRun.{one_run}
use Rattle.sdm_run.proofs.RunAnswers.{run_of_parts}

module _ (bytes : List ℕ) (short : length bytes ≤ most_bytes) (data_end start : ℕ)
    (cut : divide bytes ≡ Some (data_end, start)) (s : Supervision) (is : IsOpeningOf (take data_end bytes) s) where
  -- the data of the input
  abbrev d : TrainAndTrack
  d = is.train_and_track

  -- its journey
  abbrev journey : Journey
  journey = journey_of run_reader d is.authority (records_of (drop start bytes))

  -- which is its run
  run : IsRun run_reader bytes journey.turns (ends.end_of_journey journey.refused)
  run = run_of_parts bytes journey.turns (ends.end_of_journey journey.refused) short
      (rw (cut, is.given.document, is.given.read)
      (inl (record { accepted = is.accepted; turns_are = refl; end_is = refl })))

  -- the map of the data stands before its certificates
  map_stands : (refused : Option (ℕ × EventCause)) → map_before bytes (ends.end_of_journey refused) ≡ safe_map_text d
  map_stands None = rw (cut, is.given.document, is.given.read) refl
  map_stands (Some x) = rw (cut, is.given.document, is.given.read) refl

  module _ (left : ℕ) (output : Output) (told : IsCertifyOutput left bytes output) where
    -- the output is that of this run
    turns_are : told.turns ≡ journey.turns
    turns_are =
        let one = one_run run_reader bytes in
        (one.only told.turns output.end told.run).0 ∙ sym (one.only journey.turns _ run).0

    end_is : output.end ≡ ends.end_of_journey journey.refused
    end_is =
        let one = one_run run_reader bytes in
        (one.only told.turns output.end told.run).1 ∙ sym (one.only journey.turns _ run).1

    -- its text is the map and the certificates of claims and marks
    text_is : output.text ≡ safe_map_text d ++ certified_text (certified_by (certified_turns left told.turns))
    text_is =
        let certified = certificates left told.turns in
        told.text_is ∙ (ap (λ (end : ends.End). map_before bytes end ++ certified) end_is
        ∙ (ap (λ (text : List ℕ). text ++ certified) (map_stands journey.refused)
        ∙ ap (λ (text : List ℕ). safe_map_text d ++ text) (texts_are (certified_turns left told.turns))))

    -- so it holds on the map
    holds : IsReadBack (slopes_of Safe d) (safe_map_text d) → AreTurnsHeld (certified_turns left journey.turns) →
        IsHeldText (slopes_of Safe d) output.text (certified_by (certified_turns left told.turns))
    holds back held =
        let turns = certified_turns left told.turns in
        let same : HaveData d told.turns = subst (HaveData d) (sym turns_are)
        (have_data d 1 (opening d is.authority) (records_of (drop start bytes)) refl) in
        let those = subst (λ (ts : List Turn). AreTurnsHeld (certified_turns left ts)) (sym turns_are) held in
        subst (λ (text : List ℕ). IsHeldText (slopes_of Safe d) text (certified_by turns)) (sym text_is)
        (held_text (slopes_of Safe d) (safe_map_text d) (certified_by turns)
        (written_speeds is.given.members d is.authority is.given.read) back
        (are_writable d turns (certified_data d left told.turns same) those))

  -- what is told of the input holds, where what is told of its records does
  pub recorded_held : (teller : Teller) → IsHeadReadBack teller s.train_and_track →
      IsHeldBy teller (turns_of teller 1 s (records_of (drop start bytes))) → IsHeldRun teller bytes
  recorded_held Rows back held = tt
  recorded_held Displays back held = tt
  recorded_held Causes back held = tt
  recorded_held (Certificates left) back held = record {
    read = d;
    is_read = rw (cut, is.given.document, is.given.read) refl;
    held = λ output told. holds left output told (rw is.state at back) (rw is.state at held);
  }

-- ---- the input

-- what holds of the bytes that were read holds of the input
pub held_told : (o : Option Command) (command : Command) (left : Option (List ℕ)) (read bytes : List ℕ) (count : ℕ) →
    o ≡ Some command → (IsTrue (shape_of command).reads_input → Told left (λ told. read ≡ told)) → bytes ≡ read →
    (command ≡ Certify count → AreCertificatesHeld count bytes) → o ≡ Some (Certify count) →
    Told left (AreCertificatesHeld count)
held_told o command None read bytes count is whole same held asked = tt
held_told o command (Some told) read bytes count is whole same held asked =
    let certify : command ≡ Certify count = cc in
    subst (AreCertificatesHeld count) (same ∙ whole (ap (λ (c : Command). (shape_of c).reads_input) certify))
    (held certify)
