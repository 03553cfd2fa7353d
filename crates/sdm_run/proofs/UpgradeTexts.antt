-- What `upgrade` writes is the text that is defined for the bytes; data that are read have one table, so the text that
-- was printed of it is read back whichever data the bytes are told to be.
use Rattle.std.proofs.Common.{◌≡◌, ℕ, List, Option, Some, None, inl, refl, ap, sym, ◌∙◌, subst}
use Rattle.std.proofs.KnownBytes.{Appends-nil}
use Rattle.std.specs.Prelude.{IsTrue, Result, Ok, Err}
use Rattle.toml.specs.Data.{Members}
use Rattle.sdm_io.specs.Told.{Told}
use Rattle.sdm_rules.specs.declared.authorities.Authority.{Authority}
use Rattle.sdm_rules.specs.Data.{TrainAndTrack}
use Rattle.sdm_formats.specs.declared.faults.DataFault.{DataFault}
use Rattle.sdm_formats.specs.Flat.{Output}
use Rattle.sdm_formats.specs.Input as ends
use Rattle.sdm_report.specs.declared.outcome.InputFault.TheVariants.{NoSplit, Toml, Data}
use Rattle.sdm_report.specs.declared.outcome.Outcome.{Outcome}
use Rattle.sdm_report.specs.declared.outcome.Outcome.TheVariants.{Done, Usage, ReadFault, WriteFault, TooLong, BadData}
use Rattle.sdm_report.specs.declared.outcome.Outcome.TheVariants.{Refused, BadEvent, Memory, Undrivable}
use Rattle.sdm_data.specs.Document.{document_of}
use Rattle.sdm_data.specs.Journey.{data_of}
use Rattle.sdm_data.specs.Tables.{table_of}
use Rattle.sdm_data.specs.Texts.{document_text}
use Rattle.sdm_opening.specs.Openings.{IsDataOf}
use Rattle.sdm_run.specs.declared.words.Command.{Command}
use Rattle.sdm_run.specs.declared.words.Command.TheVariants.{Upgrade}
use Rattle.sdm_run.specs.Answers.{ComesOfReadingAlone, IsAnswer, NeedsTheWholeInput}
use Rattle.sdm_run.specs.RunParts.{IsRefusedByData}
use Rattle.sdm_run.specs.Shapes.{IsOutcomeIn, shape_of, upgrade_shape}
use Rattle.sdm_run.specs.Upgrades.{IsReadBack, IsUpgradedTo, upgrade_output}
use Rattle.sdm_run.proofs.Refusals.{of_data_part}
use Rattle.sdm_run.proofs.RunAnswers.{memory_first, refused_not_before}

-- ---- the text

-- the data of a document, or the fault
same_answer : (bytes : List ℕ) (members : Members) (answer : Result (TrainAndTrack × Authority) DataFault)
    (d : TrainAndTrack) (a : Authority) → document_of bytes ≡ Some members → data_of members ≡ answer →
    IsDataOf bytes d a → answer ≡ Ok (d, a)
same_answer bytes members answer d a document read given =
    let same : members ≡ given.members = cc in
    sym read ∙ ap data_of same ∙ given.read

-- data that are read, with the text of their table, which reads back as this table, make an upgrade of the bytes
pub upgraded_to : (bytes text : List ℕ) (d : TrainAndTrack) (a : Authority) → IsDataOf bytes d a →
    text ≡ document_text (table_of d a) → document_of text ≡ Some (table_of d a) → IsUpgradedTo bytes text
upgraded_to bytes text d a own text_is back = record {
  output_is = rw (own.document, own.read, text_is) refl;
  read_back = λ e b given.
      let document = own.document in
      let read = own.read in
      let same : (d, a) ≡ (e, b) = cc in
      let its = subst (λ (t : List ℕ). document_of t ≡ Some (table_of d a)) text_is back in
      rw (given.document, given.read)
      (subst (λ (both : TrainAndTrack × Authority). document_of (document_text (table_of both.0 both.1))
      ≡ Some (table_of both.0 both.1)) same its);
}

-- ---- outcomes

-- bytes that hold no data need no reading back
refused_back : (bytes : List ℕ) (outcome : Outcome) → IsRefusedByData bytes outcome → NeedsTheWholeInput outcome →
    IsReadBack bytes
refused_back bytes Done h whole = absurd h
refused_back bytes Usage h whole = absurd h
refused_back bytes ReadFault h whole = absurd h
refused_back bytes WriteFault h whole = absurd h
refused_back bytes TooLong h whole = absurd h
refused_back bytes (BadData NoSplit) h whole = absurd h
refused_back bytes (BadData Toml) none whole = λ d a given. absurd cc
refused_back bytes (BadData (Data fault)) (known, members, document, read) whole = λ d a given.
    let no : Result.Err fault ≡ Ok (d, a) = same_answer bytes members (Err fault) d a document read given in absurd cc
refused_back bytes (Refused fault) h whole = absurd h
refused_back bytes (BadEvent number cause) h whole = absurd h
refused_back bytes Memory h whole = absurd whole
refused_back bytes (Undrivable cause) h whole = absurd h

-- what refuses the data part answers the bytes with nothing written
refused_answer : (bytes : List ℕ) (old : Option (List ℕ)) (outcome : Outcome) → IsRefusedByData bytes outcome →
    IsAnswer (upgrade_output bytes) old old outcome
refused_answer bytes old Done h = absurd h
refused_answer bytes old Usage h = absurd h
refused_answer bytes old ReadFault h = absurd h
refused_answer bytes old WriteFault h = absurd h
refused_answer bytes old TooLong h = absurd h
refused_answer bytes old (BadData NoSplit) h = absurd h
refused_answer bytes old (BadData Toml) none = rw none (record { ended = inl refl; taken = Appends-nil old })
refused_answer bytes old (BadData (Data fault)) (known, members, document, read) =
    rw (document, read) (record { ended = inl refl; taken = Appends-nil old })
refused_answer bytes old (Refused fault) h = absurd h
refused_answer bytes old (BadEvent number cause) h = absurd h
refused_answer bytes old Memory h = memory_first old (upgrade_output bytes)
refused_answer bytes old (Undrivable cause) h = absurd h

-- and is an outcome of `upgrade`
refused_possible : (bytes : List ℕ) (outcome : Outcome) → IsRefusedByData bytes outcome →
    IsOutcomeIn upgrade_shape outcome
refused_possible bytes Done h = absurd h
refused_possible bytes Usage h = absurd h
refused_possible bytes ReadFault h = absurd h
refused_possible bytes WriteFault h = absurd h
refused_possible bytes TooLong h = absurd h
refused_possible bytes (BadData NoSplit) h = absurd h
refused_possible bytes (BadData Toml) h = refl
refused_possible bytes (BadData (Data fault)) h = (refl, h.0)
refused_possible bytes (Refused fault) h = absurd h
refused_possible bytes (BadEvent number cause) h = absurd h
refused_possible bytes Memory h = tt
refused_possible bytes (Undrivable cause) h = absurd h

-- what follows where a data part is refused, before out was called
pub record IsRefusal (bytes : List ℕ) (old : Option (List ℕ)) (outcome : Outcome) : Type 0 where
  pub answer : IsAnswer (upgrade_output bytes) old old outcome
  pub read_back : NeedsTheWholeInput outcome → IsReadBack bytes
  pub possible : IsOutcomeIn upgrade_shape outcome
  pub not_before : ComesOfReadingAlone outcome → ⊥

-- a data part that is refused has all of this
pub refusal : (bytes : List ℕ) (old : Option (List ℕ)) (outcome : Outcome) → IsRefusedByData bytes outcome →
    IsRefusal bytes old outcome
refusal bytes old outcome h = record {
  answer = refused_answer bytes old outcome h;
  read_back = refused_back bytes outcome h;
  possible = refused_possible bytes outcome h;
  not_before = refused_not_before bytes outcome (of_data_part bytes outcome h);
}

-- what answers an output with the text and no fault answers the upgrade
pub text_written : (bytes text : List ℕ) (old new : Option (List ℕ)) (outcome : Outcome) → IsUpgradedTo bytes text →
    ((output : Output) → output.text ≡ text → output.end ≡ ends.Done → IsAnswer output old new outcome) →
    IsAnswer (upgrade_output bytes) old new outcome
text_written bytes text old new outcome is h =
    h (upgrade_output bytes) (ap (λ (o : Output). o.text) is.output_is) (ap (λ (o : Output). o.end) is.output_is)

-- ---- the input

-- what is read back of the bytes that were read is read back of the input
pub read_back_told : (o : Option Command) (command : Command) (left : Option (List ℕ)) (read bytes : List ℕ) →
    o ≡ Some command → (IsTrue (shape_of command).reads_input → Told left (λ told. read ≡ told)) → bytes ≡ read →
    (command ≡ Upgrade → IsReadBack bytes) → o ≡ Some Upgrade → Told left IsReadBack
read_back_told o command None read bytes is whole same back asked = tt
read_back_told o command (Some told) read bytes is whole same back asked =
    let upgrade : command ≡ Upgrade = cc in
    subst IsReadBack (same ∙ whole (ap (λ (c : Command). (shape_of c).reads_input) upgrade)) (back upgrade)
