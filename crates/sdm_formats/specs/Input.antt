-- What `run` defines for the bytes of its input: the turns of the journey, and how the input ends (own). Any bytes have
-- exactly one such pair.
use Rattle.std.specs.Prelude.{◌≡◌, ◌⊎◌, MatchBool, nat_lt, ℕ, List, [], Option, Some, None, Result, Ok, Err, length}
use Rattle.std.specs.Prelude.{take, drop}
use Rattle.sdm_rules.specs.declared.authorities.Authority.{Authority}
use Rattle.sdm_rules.specs.declared.records.Event.{Event}
use Rattle.sdm_rules.specs.declared.faults.EventFault.{EventFault}
use Rattle.sdm_rules.specs.declared.faults.EventCause.{EventCause}
use Rattle.sdm_rules.specs.declared.faults.OpenFault.{OpenFault}
use Rattle.sdm_rules.specs.Data.{TrainAndTrack}
use Rattle.sdm_rules.specs.Supervision.{opening}
use Rattle.sdm_rules.specs.Records.{Journey, Turn, event_at, journey_from}
use Rattle.sdm_rules.specs.Opening.{IsAccepted, IsOpenFault}
use Rattle.sdm_formats.specs.declared.faults.DataFault.{DataFault}
use Rattle.sdm_formats.specs.declared.faults.DriveCause.{DriveCause}

-- the most bytes of an input
abbrev pub most_bytes : ℕ
most_bytes = 16_777_216

-- How an input ends: read whole, too long, without a dividing line, with data that are no TOML document or break a
-- rule, with data that can't be driven, with data that the opening refuses, or with a record, by its number from 1,
-- that is refused
pub data End : Type 0 where
  Done : End
  TooLong : End
  NoSplit : End
  Toml : End
  Data : DataFault → End
  Undrivable : DriveCause → End
  Refused : OpenFault → End
  BadEvent : ℕ → EventCause → End

-- How the parts of an input are read: where the data part ends and where the records begin, the TOML document of
-- bytes, the data of a document or the first rule that they break, the CSV records of bytes, and the event of a record
pub record Reader (Table Fields : Type 0) : Type 0 where
  pub divide : List ℕ → Option (ℕ × ℕ)
  pub document : List ℕ → Option Table
  pub data_of : Table → Result (TrainAndTrack × Authority) DataFault
  pub records : List ℕ → List Fields
  pub form : Fields → Result Event EventFault

-- the end of a journey: all records taken, or the first that is refused
abbrev pub end_of_journey : Option (ℕ × EventCause) → End
end_of_journey None = Done
end_of_journey (Some (n, cause)) = BadEvent n cause

module _ {Table Fields : Type 0} (reader : Reader Table Fields) where
  -- the journey of records after an accepted opening
  abbrev pub journey_of : TrainAndTrack → Authority → List Fields → Journey
  journey_of train_and_track a records = journey_from (event_at reader.form) 1 (opening train_and_track a) records

  -- the turns and the end from accepted data and an accepted authority on
  pub record IsOpened (train_and_track : TrainAndTrack) (a : Authority) (records : List Fields) (turns : List Turn)
      (end : End) : Type 0 where
    pub accepted : IsAccepted train_and_track a
    pub turns_are : turns ≡ (journey_of train_and_track a records).turns
    pub end_is : end ≡ end_of_journey (journey_of train_and_track a records).refused

  -- the turns and the end from the data on; there are turns only after an accepted opening
  abbrev pub IsAfterData : List Turn → End → List Fields → Result (TrainAndTrack × Authority) DataFault → Type 0
  IsAfterData turns end records (Err fault) = (turns ≡ []) × (end ≡ Data fault)
  IsAfterData turns end records (Ok x) =
      IsOpened x.0 x.1 records turns end
      ⊎ ((fault : OpenFault) × IsOpenFault x.0 x.1 fault × (turns ≡ []) × (end ≡ Refused fault))

  -- the turns and the end from the TOML document on
  abbrev pub IsAfterDocument : List Turn → End → List Fields → Option Table → Type 0
  IsAfterDocument turns end records None = (turns ≡ []) × (end ≡ Toml)
  IsAfterDocument turns end records (Some table) = IsAfterData turns end records (reader.data_of table)

  -- the turns and the end from the division of the input on
  abbrev pub IsAfterDivision : List Turn → End → List ℕ → Option (ℕ × ℕ) → Type 0
  IsAfterDivision turns end bytes None = (turns ≡ []) × (end ≡ NoSplit)
  IsAfterDivision turns end bytes (Some x) =
      IsAfterDocument turns end (reader.records (drop x.1 bytes)) (reader.document (take x.0 bytes))

  -- THE RUN: these are the turns and the end of the input
  abbrev pub IsRun : List ℕ → List Turn → End → Type 0
  IsRun bytes turns end =
      MatchBool (nat_lt most_bytes (length bytes)) ((turns ≡ []) × (end ≡ TooLong))
      (IsAfterDivision turns end bytes (reader.divide bytes))
