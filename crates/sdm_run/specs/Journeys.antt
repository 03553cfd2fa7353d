-- A journey: how its input is read, and the output that is defined for it, given the text of each turn (own).
use Rattle.std.specs.Prelude.{◌≡◌, ℕ, List}
use Rattle.toml.specs.Data.{Members}
use Rattle.sdm_rules.specs.Records.{Turn}
use Rattle.sdm_formats.specs.Flat.{Output}
use Rattle.sdm_formats.specs.Forms.{event_of}
use Rattle.sdm_formats.specs.Input.{Reader, IsRun}
use Rattle.sdm_formats.specs.Text.{told}
use Rattle.sdm_data.specs.Division.{divide}
use Rattle.sdm_data.specs.Document.{document_of}
use Rattle.sdm_data.specs.Journey.{data_of}
use Rattle.sdm_events.specs.Journey.{Record, records_of}

-- how the parts of an input are read: a TOML document before the dividing line and CSV records after it, as `toml` and
-- `csv` define them
abbrev pub run_reader : Reader Members Record
run_reader = record {
  divide = divide;
  document = document_of;
  data_of = data_of;
  records = records_of;
  form = event_of;
}

-- what is defined for the bytes of an input, given the text of each turn: the text of the turns of THE RUN, and its end
pub record IsJourneyOutput (tell : Turn → List ℕ) (bytes : List ℕ) (output : Output) : Type 0 where
  pub turns : List Turn
  pub run : IsRun run_reader bytes turns output.end
  pub text_is : output.text ≡ told tell turns
