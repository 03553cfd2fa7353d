-- What `drive` writes is the summary that is defined for the bytes: their data decide whether a train is driven, and
-- the opening, which is decided in one way, how.
use Rattle.std.proofs.Common.{◌≡◌, ◌<◌, ◌≤◌, ℕ, true, false, nat_lt, List, Option, Some, None, length, pos}
use Rattle.std.proofs.Common.{inl, inr, refl, ap, sym, ◌∙◌, subst, arith}
use Rattle.std.proofs.lemmas.Bool.Decides.{nat_tests}
use Rattle.std.proofs.KnownBytes.{Appends-nil}
use Rattle.std.specs.Prelude.{◌⊎◌, Result, Ok, Err, unsigned_abs}
use Rattle.toml.specs.Data.{Members}
use Rattle.sdm_rules.specs.declared.authorities.Authority.{Authority}
use Rattle.sdm_rules.specs.declared.authorities.Authority.TheVariants.{Stop, Limit}
use Rattle.sdm_rules.specs.declared.faults.OpenFault.{OpenFault}
use Rattle.sdm_rules.specs.Data.{TrainAndTrack}
use Rattle.sdm_rules.specs.Opening.{IsAccepted, IsOpenFault}
use Rattle.sdm_formats.specs.declared.faults.DataFault.{DataFault}
use Rattle.sdm_formats.specs.declared.faults.DriveCause.{DriveCause}
use Rattle.sdm_formats.specs.declared.faults.DriveCause.TheVariants.{NoStop, HasRelease, ShortBuild}
use Rattle.sdm_formats.specs.Flat.{Output}
use Rattle.sdm_formats.specs.Input as ends
use Rattle.sdm_formats.specs.Input.{most_bytes}
use Rattle.sdm_laws.proofs.Openings.Decided.{decided}
use Rattle.sdm_laws.proofs.Openings.OneFault.{not_both, one_fault}
use Rattle.sdm_report.specs.declared.outcome.InputFault.TheVariants.{NoSplit, Toml, Data}
use Rattle.sdm_report.specs.declared.outcome.Outcome.{Outcome}
use Rattle.sdm_report.specs.declared.outcome.Outcome.TheVariants.{Done, Usage, ReadFault, WriteFault, TooLong, BadData}
use Rattle.sdm_report.specs.declared.outcome.Outcome.TheVariants.{Refused, BadEvent, Memory, Undrivable}
use Rattle.sdm_data.specs.Document.{document_of}
use Rattle.sdm_data.specs.Journey.{data_of}
use Rattle.sdm_drive.specs.Drive.{drive_output, drive_rows, drive_start, drive_text, step_time}
use Rattle.sdm_drive.specs.DriveLaws.{IsDrivable}
use Rattle.sdm_drive.specs.Faults.{HasBuildUp, MayBeDriven}
use Rattle.sdm_drive.specs.Summaries.{Counts, counts_of}
use Rattle.sdm_drive.specs.declared.rows.DriveRow.{DriveRow}
use Rattle.sdm_drive.proofs.Ahead.{rows_by_svl}
use Rattle.sdm_opening.specs.Openings.{IsDataOf}
use Rattle.sdm_drive.proofs.Journeys.{steps_promised}
use Rattle.sdm_run.specs.Answers.{ComesOfReadingAlone, IsAnswer}
use Rattle.sdm_run.specs.Drives.{AreDriveRowsSafe, IsDriveOfData, IsDriveOfDocument, IsDriveOutput, IsDriveOver}
use Rattle.sdm_run.specs.Drives.{IsDriveCause, IsOpenedDrive, IsSummaryOf, IsUndrivenBy, no_text}
use Rattle.sdm_run.specs.RunParts.{IsRefusedByData}
use Rattle.sdm_run.specs.Shapes.{IsOutcomeIn, drive_shape}
use Rattle.sdm_run.proofs.OneOutput.{Single, in_case, named}
use Rattle.sdm_run.proofs.RunAnswers.{memory_first}
use Rattle.sdm_run.proofs.RunData.{has_bands}

-- ---- one output

module _ (seed cycles : ℕ) where
  -- of a stop that the opening accepts or refuses
  opened : (d : TrainAndTrack) (eoa svl : ℕ) →
      IsAccepted d (Stop eoa svl 0) ⊎ ((fault : OpenFault) × IsOpenFault d (Stop eoa svl 0) fault) →
      Single (IsOpenedDrive seed cycles d eoa svl)
  opened d eoa svl (inl accepted) = (
    record { text = drive_output d eoa svl seed cycles; end = ends.Done },
    (
      inl (accepted, refl),
      λ other h. elim h [
        | inl k ↦ k.1
        | inr f ↦ absurd (not_both d (Stop eoa svl 0) f.0 accepted f.1)
      ],
    ),
  )
  opened d eoa svl (inr w) = (
    no_text (ends.Refused w.0),
    (
      inr (w.0, w.1, refl),
      λ other h. elim h [
        | inl k ↦ absurd (not_both d (Stop eoa svl 0) w.0 k.0 w.1)
        | inr f ↦ f.2 ∙ ap (λ (fault : OpenFault). no_text (ends.Refused fault))
            (one_fault d (Stop eoa svl 0) f.0 w.0 f.1 w.1)
      ],
    ),
  )

  -- of data
  over : (d : TrainAndTrack) (a : Authority) → Single (IsDriveOver seed cycles d a)
  over d (Limit loa speed) = named (no_text (ends.Undrivable NoStop))
  over d (Stop eoa svl release) =
      in_case _ _ (nat_lt 0 release) (named (no_text (ends.Undrivable HasRelease)))
      (in_case _ _ (nat_lt (unsigned_abs d.train.emergency_time) step_time)
      (named (no_text (ends.Undrivable ShortBuild))) (opened d eoa svl (decided d (Stop eoa svl 0))))

  -- of what a document was read as
  of_data : (read : Result (TrainAndTrack × Authority) DataFault) → Single (IsDriveOfData seed cycles read)
  of_data (Ok read) = over read.0 read.1
  of_data (Err fault) = named (no_text (ends.Data fault))

  -- of a document, there or not
  of_document : (document : Option Members) → Single (IsDriveOfDocument seed cycles document)
  of_document (Some members) = of_data (data_of members)
  of_document None = named (no_text ends.Toml)

  -- all bytes have one output
  pub one_drive : (bytes : List ℕ) → Single (IsDriveOutput seed cycles bytes)
  one_drive bytes =
      in_case _ _ (nat_lt most_bytes (length bytes)) (named (no_text ends.TooLong)) (of_document (document_of bytes))

  -- ---- the limit

  -- within it the output is that of the document
  pub of_short : (bytes : List ℕ) (output : Output) → length bytes ≤ most_bytes →
      IsDriveOutput seed cycles bytes output → IsDriveOfDocument seed cycles (document_of bytes) output
  of_short bytes output short h =
      let no : nat_lt most_bytes (length bytes) ≡ false = grind (arith, nat_tests) in rw no at h

  -- above it the output is empty, and ends as too long
  pub drive_too_long : (bytes : List ℕ) (old : Option (List ℕ)) → most_bytes < length bytes → (output : Output) →
      IsDriveOutput seed cycles bytes output → IsAnswer output old old TooLong
  drive_too_long bytes old long output h =
      let yes : nat_lt most_bytes (length bytes) ≡ true = grind (arith, nat_tests) in
      let is = rw yes at h in
      rw is (record { ended = inl refl; taken = Appends-nil old })

  -- ---- outcomes

  module _ (bytes : List ℕ) (output : Output) (of : IsDriveOfDocument seed cycles (document_of bytes) output) where
    -- what is defined for the data of the bytes
    over_data : (d : TrainAndTrack) (a : Authority) → IsDataOf bytes d a → IsDriveOver seed cycles d a output
    over_data d a given = rw (given.document, given.read) at of

    -- what is defined for a stop without a release speed and with time enough
    opened_stop : (d : TrainAndTrack) (eoa svl : ℕ) → IsDataOf bytes d (Stop eoa svl 0) → HasBuildUp d →
        IsOpenedDrive seed cycles d eoa svl output
    opened_stop d eoa svl given slow =
        let no : nat_lt (unsigned_abs d.train.emergency_time) step_time ≡ false = grind (arith, nat_tests) in
        rw no at (over_data d (Stop eoa svl 0) given)

    -- what is defined for data over which no train is driven
    undriven : (d : TrainAndTrack) (a : Authority) (cause : DriveCause) → IsDataOf bytes d a → IsDriveCause d a cause →
        output ≡ no_text (ends.Undrivable cause)
    undriven d a NoStop given (loa, speed, a_is) =
        over_data d (Limit loa speed) (subst (IsDataOf bytes d) a_is given)
    undriven d a HasRelease given (eoa, svl, release, a_is, some) =
        let yes : nat_lt 0 release ≡ true = grind (arith, nat_tests) in
        rw yes at (over_data d (Stop eoa svl release) (subst (IsDataOf bytes d) a_is given))
    undriven d a ShortBuild given ((eoa, svl, a_is), short) =
        let yes : nat_lt (unsigned_abs d.train.emergency_time) step_time ≡ true = grind (arith, nat_tests) in
        rw yes at (over_data d (Stop eoa svl 0) (subst (IsDataOf bytes d) a_is given))

    -- and where the opening refuses
    refused_opening : (d : TrainAndTrack) (eoa svl : ℕ) (fault : OpenFault) → IsDataOf bytes d (Stop eoa svl 0) →
        HasBuildUp d → IsOpenFault d (Stop eoa svl 0) fault → output ≡ no_text (ends.Refused fault)
    refused_opening d eoa svl fault given slow first = elim (opened_stop d eoa svl given slow) [
      | inl k ↦ absurd (not_both d (Stop eoa svl 0) fault k.0 first)
      | inr f ↦ f.2 ∙ ap (λ (fault : OpenFault). no_text (ends.Refused fault))
          (one_fault d (Stop eoa svl 0) f.0 fault f.1 first)
    ]

    -- what a refusal answers, with nothing written
    refused_answer : (old : Option (List ℕ)) (outcome : Outcome) → IsUndrivenBy bytes outcome →
        IsAnswer output old old outcome
    refused_answer old (Undrivable cause) (d, a, given, is) =
        rw (undriven d a cause given is) (record { ended = inl refl; taken = Appends-nil old })
    refused_answer old (Refused fault) (known, d, eoa, svl, given, slow, first) =
        rw (refused_opening d eoa svl fault given slow first) (record { ended = inl refl; taken = Appends-nil old })
    refused_answer old (BadData Toml) none =
        let is = rw none at of in rw is (record { ended = inl refl; taken = Appends-nil old })
    refused_answer old (BadData (Data fault)) (known, members, document, read) =
        let is = rw (document, read) at of in rw is (record { ended = inl refl; taken = Appends-nil old })
    refused_answer old Memory h = memory_first old output
    refused_answer old Done h = absurd h
    refused_answer old Usage h = absurd h
    refused_answer old ReadFault h = absurd h
    refused_answer old WriteFault h = absurd h
    refused_answer old TooLong h = absurd h
    refused_answer old (BadData NoSplit) h = absurd h
    refused_answer old (BadEvent number cause) h = absurd h

    -- what holds of an output with the summary and no fault holds of this one, as it is put and written
    pub drive_written : (P : Output → Type 0) (counts : Counts) (text : List ℕ) → IsSummaryOf seed cycles bytes counts →
        ((rows : List DriveRow) → counts ≡ counts_of counts.svl rows → text ≡ drive_text counts.svl rows) →
        ((output : Output) → output.text ≡ text → output.end ≡ ends.Done → P output) → P output
    drive_written P counts text s put written =
        let start = drive_start s.train_and_track (Stop s.eoa s.svl 0) seed in
        let rows = drive_rows cycles start in
        let svl_is : counts.svl ≡ s.svl = ap (λ (c : Counts). c.svl) s.counts_are in
        let text_is : text ≡ drive_text s.svl rows =
        put rows (s.counts_are ∙ ap (λ (to : ℕ). counts_of to rows) (sym svl_is))
        ∙ ap (λ (to : ℕ). drive_text to rows) svl_is in
        elim (opened_stop s.train_and_track s.eoa s.svl s.given s.build_up) [
          | inl k ↦ written output (ap (λ (o : Output). o.text) k.1 ∙ sym text_is) (ap (λ (o : Output). o.end) k.1)
          | inr f ↦ absurd (not_both s.train_and_track (Stop s.eoa s.svl 0) f.0 s.accepted f.1)
        ]

-- a refusal is an outcome of `drive`
undriven_possible : (bytes : List ℕ) (outcome : Outcome) → IsUndrivenBy bytes outcome →
    IsOutcomeIn drive_shape outcome
undriven_possible bytes (Undrivable cause) h = refl
undriven_possible bytes (Refused fault) h = (refl, h.0)
undriven_possible bytes (BadData Toml) h = refl
undriven_possible bytes (BadData (Data fault)) h = (refl, h.0)
undriven_possible bytes Memory h = tt
undriven_possible bytes Done h = absurd h
undriven_possible bytes Usage h = absurd h
undriven_possible bytes ReadFault h = absurd h
undriven_possible bytes WriteFault h = absurd h
undriven_possible bytes TooLong h = absurd h
undriven_possible bytes (BadData NoSplit) h = absurd h
undriven_possible bytes (BadEvent number cause) h = absurd h

-- and doesn't come of reading alone
undriven_not_before : (bytes : List ℕ) (outcome : Outcome) → IsUndrivenBy bytes outcome →
    ComesOfReadingAlone outcome → ⊥
undriven_not_before bytes (Undrivable cause) h b = b
undriven_not_before bytes (Refused fault) h b = b
undriven_not_before bytes (BadData fault) h b = b
undriven_not_before bytes Memory h b = b
undriven_not_before bytes Done h b = b
undriven_not_before bytes Usage h b = h
undriven_not_before bytes ReadFault h b = h
undriven_not_before bytes WriteFault h b = b
undriven_not_before bytes TooLong h b = h
undriven_not_before bytes (BadEvent number cause) h b = b

-- what follows where no train is driven, before out was called
pub record IsNotDriven (seed cycles : ℕ) (bytes : List ℕ) (old : Option (List ℕ)) (outcome : Outcome) : Type 0 where
  pub answer : (output : Output) → IsDriveOfDocument seed cycles (document_of bytes) output →
      IsAnswer output old old outcome
  pub possible : IsOutcomeIn drive_shape outcome
  pub not_before : ComesOfReadingAlone outcome → ⊥

-- a refusal has all of this
pub refusal : (seed cycles : ℕ) (bytes : List ℕ) (old : Option (List ℕ)) (outcome : Outcome) →
    IsUndrivenBy bytes outcome → IsNotDriven seed cycles bytes old outcome
refusal seed cycles bytes old outcome h = record {
  answer = λ output of. refused_answer seed cycles bytes output of old outcome h;
  possible = undriven_possible bytes outcome h;
  not_before = undriven_not_before bytes outcome h;
}

-- ---- the parts of the command

-- over a data part that holds no data no train is driven
pub of_data_part : (bytes : List ℕ) (outcome : Outcome) → IsRefusedByData bytes outcome → IsUndrivenBy bytes outcome
of_data_part bytes Done h = h
of_data_part bytes Usage h = h
of_data_part bytes ReadFault h = h
of_data_part bytes WriteFault h = h
of_data_part bytes TooLong h = h
of_data_part bytes (BadData fault) h = h
of_data_part bytes (Refused fault) h = absurd h
of_data_part bytes (BadEvent number cause) h = h
of_data_part bytes Memory h = h
of_data_part bytes (Undrivable cause) h = absurd h

-- what was counted over data that may be driven is the summary of the bytes that are these data
pub summary_of_data : (seed cycles : ℕ) (bytes : List ℕ) (d : TrainAndTrack) (a : Authority) (counts : Counts) →
    IsDataOf bytes d a → MayBeDriven d a →
    ((eoa svl : ℕ) → a ≡ Stop eoa svl 0 → counts ≡ counts_of svl (drive_rows cycles (drive_start d a seed))) →
    IsSummaryOf seed cycles bytes counts
summary_of_data seed cycles bytes d a counts given may counted = record {
  train_and_track = d;
  eoa = may.eoa;
  svl = may.svl;
  given = subst (IsDataOf bytes d) may.stop given;
  accepted = subst (IsAccepted d) may.stop may.accepted;
  build_up = may.drivable.build_up;
  counts_are = counted may.eoa may.svl may.stop
      ∙ ap (λ (x : Authority). counts_of may.svl (drive_rows cycles (drive_start d x seed))) may.stop;
}

-- a build-up time that is too short, as the cause says it
pub no_build_up : (d : TrainAndTrack) (time : ℕ) → pos time ≡ d.train.emergency_time → time < step_time →
    unsigned_abs d.train.emergency_time < step_time
no_build_up d time is short = rw (sym is) short

-- ---- the rows

-- what is promised of a drive over the data of the bytes
pub drive_rows_safe : (seed cycles : ℕ) (bytes : List ℕ) → AreDriveRowsSafe seed cycles bytes
drive_rows_safe seed cycles bytes d eoa svl given accepted slow =
    let bands = has_bands given.members d (Stop eoa svl 0) given.read in
    let may : IsDrivable d eoa svl =
    record { is_open = record { bands = bands; usable = accepted.0 }; build_up = slow } in
    record {
      by_svl = rows_by_svl d eoa svl seed cycles may;
      steps = steps_promised d eoa svl seed cycles may;
    }
