-- What a reader of records has left. Its bytes are in memory, so they are known.
use Rattle.std.specs.Prelude.{◌≡◌, ◌+◌, ℕ, Bool, true, false, List, [], length, Option, Some, None, Result, Ok, Err}
use Rattle.std.specs.Borrow.{Bor}
use Rattle.csv.specs.Machine.{ends_at_end}
use Rattle.csv.specs.Reading.{Ready, default_config, reader_config, reader_state, reader_trim, records_from, source_of}
use Rattle.csv.specs.declared.parser.State.{State}
use Rattle.csv.specs.declared.reader.Reader.{Reader}
use Rattle.csv.specs.declared.reader.Trim.TheVariants as trim
use Rattle.sdm_num.specs.declared.memory.NoMemory.{NoMemory}
use Rattle.sdm_events.specs.Journey.{Record}

-- the bytes that a reader has left (own)
abbrev pub bytes_left : Reader (Bor (List ℕ)) → Option (List ℕ)
bytes_left r = source_of (λ s. Some s.now) r

-- the records of the rest of a text, which begins in a state of the parser (own)
abbrev pub rest_records : State → List ℕ → List Record
rest_records s bytes = records_from default_config (length bytes + 1) s bytes

-- the records of the rest of a text that may be unknown (own)
abbrev pub records_in : State → Option (List ℕ) → List Record
records_in s None = []
records_in s (Some bytes) = rest_records s bytes

-- the reader stands between two records, and reads by the defaults with no header row (own)
pub record IsBetweenRecords (r : Reader (Bor (List ℕ))) : Type 0 where
  pub config : reader_config r ≡ default_config
  pub trims : reader_trim r ≡ trim.None
  pub ready : Ready r
  pub between : ends_at_end (reader_state r) ≡ false
  pub known : (bytes : List ℕ) × (bytes_left r ≡ Some bytes)

-- the records left after an answer: none, unless it gave a record (own)
abbrev pub left_after : Result Bool NoMemory → Reader (Bor (List ℕ)) → List Record
left_after (Ok true) r = records_in (reader_state r) (bytes_left r)
left_after (Ok false) r = []
left_after (Err refused) r = []

-- what is left to a reader of records, and whether memory was refused to it (own)
pub record Rest : Type 0 where
  pub left : List Record
  pub failed : Bool
