-- What a data part opens, or why it opens nothing (own).
use Rattle.std.specs.Prelude.{◌≡◌, ◌≢◌, ℕ, List, Some, None, Ok, Err, ⊤}
use Rattle.toml.specs.Data.{Members}
use Rattle.sdm_rules.specs.declared.authorities.Authority.{Authority}
use Rattle.sdm_rules.specs.declared.faults.OpenFault.{OpenFault}
use Rattle.sdm_rules.specs.declared.faults.OpenFault.TheVariants as open_faults
use Rattle.sdm_rules.specs.Data.{TrainAndTrack}
use Rattle.sdm_rules.specs.Opening.{IsAccepted, IsOpenFault}
use Rattle.sdm_rules.specs.Supervision.{Supervision, opening}
use Rattle.sdm_formats.specs.declared.faults.DataFault.TheVariants as data_faults
use Rattle.sdm_report.specs.declared.outcome.InputFault.{InputFault}
use Rattle.sdm_report.specs.declared.outcome.InputFault.TheVariants.{NoSplit, Toml, Data}
use Rattle.sdm_data.specs.Document.{document_of}
use Rattle.sdm_data.specs.Journey.{data_of}
use Rattle.sdm_opening.specs.declared.NoOpening.{NoOpening}
use Rattle.sdm_opening.specs.declared.NoOpening.TheVariants.{Memory, BadData, Refused}

-- the data part is a document with these data, which break no rule (own)
pub record IsDataOf (bytes : List ℕ) (train_and_track : TrainAndTrack) (a : Authority) : Type 0 where
  pub members : Members
  pub document : document_of bytes ≡ Some members
  pub read : data_of members ≡ Ok (train_and_track, a)

-- the data part is a document with data that open this supervision state (own)
pub record IsOpeningOf (bytes : List ℕ) (s : Supervision) : Type 0 where
  pub train_and_track : TrainAndTrack
  pub authority : Authority
  pub given : IsDataOf bytes train_and_track authority
  pub accepted : IsAccepted train_and_track authority
  pub state : s ≡ opening train_and_track authority

-- the data part holds no data: it is no document, or this is the first rule that it breaks (own)
abbrev pub IsDataFault : List ℕ → InputFault → Type 0
IsDataFault bytes NoSplit = ⊥
IsDataFault bytes Toml = document_of bytes ≡ None
IsDataFault bytes (Data fault) = (fault ≢ data_faults.Memory) × (members : Members)
    × (document_of bytes ≡ Some members) × (data_of members ≡ Err fault)

-- the data part holds data, and this is the first fault of their opening (own)
abbrev pub IsRefusal : List ℕ → OpenFault → Type 0
IsRefusal bytes fault = (fault ≢ open_faults.Memory) × (train_and_track : TrainAndTrack) × (a : Authority)
    × IsDataOf bytes train_and_track a × IsOpenFault train_and_track a fault

-- why the data part holds no data; memory may be refused at any time (own)
abbrev pub IsNoDataOf : List ℕ → NoOpening → Type 0
IsNoDataOf bytes Memory = ⊤
IsNoDataOf bytes (BadData fault) = IsDataFault bytes fault
IsNoDataOf bytes (Refused fault) = ⊥

-- why the data part opens no supervision state; memory may be refused at any time (own)
abbrev pub IsReasonOf : List ℕ → NoOpening → Type 0
IsReasonOf bytes Memory = ⊤
IsReasonOf bytes (BadData fault) = IsDataFault bytes fault
IsReasonOf bytes (Refused fault) = IsRefusal bytes fault

-- the data part has one answer, unless memory is refused: a state or a reason, never both and never two (own)
pub record HasOneAnswer (bytes : List ℕ) : Type 0 where
  pub not_both : (s : Supervision) (reason : NoOpening) → reason ≢ Memory → IsOpeningOf bytes s
      → IsReasonOf bytes reason → ⊥
  pub one_state : (s t : Supervision) → IsOpeningOf bytes s → IsOpeningOf bytes t → s ≡ t
  pub one_reason : (reason other : NoOpening) → reason ≢ Memory → other ≢ Memory → IsReasonOf bytes reason
      → IsReasonOf bytes other → reason ≡ other

-- each data part has one answer (own)
abbrev pub LawOfAnswers : Type 0
LawOfAnswers = (bytes : List ℕ) → HasOneAnswer bytes
