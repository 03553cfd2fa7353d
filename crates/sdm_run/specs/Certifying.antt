-- The command `certify`: the text that it defines for its input, which is the map and then the certificates (own).
use Rattle.std.specs.Prelude.{◌≡◌, ℕ, Bool, true, false, ◌&&◌, List, [], ◌∷◌, ◌++◌, take, filter, Option, Some, None}
use Rattle.std.specs.Prelude.{Result, Ok, Err}
use Rattle.toml.specs.Data.{Members}
use Rattle.sdm_num.specs.Readings.{OdometerReading}
use Rattle.sdm_rules.specs.declared.authorities.Authority.{Authority}
use Rattle.sdm_rules.specs.declared.authorities.Authority.TheVariants.{Stop, Limit}
use Rattle.sdm_rules.specs.declared.data.SlopeKind.TheVariants.{Safe}
use Rattle.sdm_rules.specs.declared.records.Event.{Event}
use Rattle.sdm_rules.specs.declared.records.Event.TheVariants as record_kinds
use Rattle.sdm_rules.specs.Data.{TrainAndTrack}
use Rattle.sdm_rules.specs.Decelerations.{slopes_of}
use Rattle.sdm_rules.specs.Records.{Turn}
use Rattle.sdm_rules.specs.Supervision.{Supervision, row_of}
use Rattle.sdm_formats.specs.declared.faults.DataFault.{DataFault}
use Rattle.sdm_formats.specs.Flat.{Output}
use Rattle.sdm_formats.specs.Input.{IsRun}
use Rattle.sdm_formats.specs.Input as ends
use Rattle.sdm_formats.specs.Text.{told}
use Rattle.sdm_certify.specs.Certificates.{claim_of}
use Rattle.sdm_certify.specs.Made.{marks_of}
use Rattle.sdm_certify.specs.Lines.{Certified}
use Rattle.sdm_certify.specs.ReadBack.{IsHeldText}
use Rattle.sdm_certify.specs.WrittenLines.{map_text, marked_claim_text}
use Rattle.sdm_data.specs.Division.{divide}
use Rattle.sdm_data.specs.Document.{document_of}
use Rattle.sdm_data.specs.Journey.{data_of}
use Rattle.sdm_run.specs.Journeys.{run_reader}

-- ---- the written map of slopes

-- the written map of A_safe
unfoldable pub safe_map_text : TrainAndTrack → List ℕ
safe_map_text d = map_text (slopes_of Safe d)

-- ---- certificates

-- the claim of a reading in a state, with the marks that are made for it
abbrev pub certified_of : Supervision → OdometerReading → Certified
certified_of s r = record { claim = claim_of s r; marks = marks_of (slopes_of Safe s.train_and_track) (claim_of s r) }

-- the certificate of a reading in a state
abbrev pub certificate_text : Supervision → OdometerReading → List ℕ
certificate_text s r = marked_claim_text (certified_of s r).claim (certified_of s r).marks

-- the authority is a stop
abbrev pub is_stop : Authority → Bool
is_stop (Stop eoa svl release) = true
is_stop (Limit loa speed) = false

-- the event is a reading whose row is covered, under an authority that is a stop
abbrev pub is_certified_in : Supervision → Event → Bool
is_certified_in s (record_kinds.Read r) = is_stop s.authority && (row_of s r).covered
is_certified_in s (record_kinds.Authority a) = false
is_certified_in s (record_kinds.Calculated eoa svl trip) = false
is_certified_in s (record_kinds.Restrict r) = false
is_certified_in s (record_kinds.Revoke id) = false

-- the turn has a certificate
abbrev pub is_certified : Turn → Bool
is_certified t = is_certified_in t.before t.event

-- the certificate of an event, which is a reading
abbrev pub certificate_in : Supervision → Event → List ℕ
certificate_in s (record_kinds.Read r) = certificate_text s r
certificate_in s (record_kinds.Authority a) = []
certificate_in s (record_kinds.Calculated eoa svl trip) = []
certificate_in s (record_kinds.Restrict r) = []
certificate_in s (record_kinds.Revoke id) = []

-- the certificate of a turn
abbrev pub certificate : Turn → List ℕ
certificate t = certificate_in t.before t.event

-- the first so many turns that have a certificate
abbrev pub certified_turns : ℕ → List Turn → List Turn
certified_turns count turns = take count (filter is_certified turns)

-- the certificates of the first so many turns that have one
abbrev pub certificates : ℕ → List Turn → List ℕ
certificates count turns = told certificate (certified_turns count turns)

-- ---- the output

-- the train and the track of what a document was read as, if no rule is broken
abbrev pub data_in : Result (TrainAndTrack × Authority) DataFault → Option TrainAndTrack
data_in (Ok read) = Some read.0
data_in (Err fault) = None

-- those of the document of a data part, if there is one
abbrev pub data_read : Option Members → Option TrainAndTrack
data_read None = None
data_read (Some members) = data_in (data_of members)

-- those of the part before the dividing line, if there is one
abbrev pub data_before : List ℕ → Option (ℕ × ℕ) → Option TrainAndTrack
data_before bytes None = None
data_before bytes (Some x) = data_read (document_of (take x.0 bytes))

-- the written map of data, if there are any
abbrev pub map_of_data : Option TrainAndTrack → List ℕ
map_of_data None = []
map_of_data (Some d) = safe_map_text d

-- the data whose map is written: where the opening was accepted, so that there are records
abbrev pub data_written : List ℕ → ends.End → Option TrainAndTrack
data_written bytes ends.Done = data_before bytes (divide bytes)
data_written bytes (ends.BadEvent number cause) = data_before bytes (divide bytes)
data_written bytes ends.TooLong = None
data_written bytes ends.NoSplit = None
data_written bytes ends.Toml = None
data_written bytes (ends.Data fault) = None
data_written bytes (ends.Undrivable cause) = None
data_written bytes (ends.Refused fault) = None

-- what stands before the certificates: the written map
abbrev pub map_before : List ℕ → ends.End → List ℕ
map_before bytes end = map_of_data (data_written bytes end)

-- what `certify` defines for the bytes of its input: the map and the certificates of THE RUN, and its end
pub record IsCertifyOutput (count : ℕ) (bytes : List ℕ) (output : Output) : Type 0 where
  pub turns : List Turn
  pub run : IsRun run_reader bytes turns output.end
  pub text_is : output.text ≡ map_before bytes output.end ++ certificates count turns

-- ---- what it proves

-- the claim of an event, which is a reading, with the marks that are made for it
abbrev pub certified_in : Supervision → Event → List Certified
certified_in s (record_kinds.Read r) = certified_of s r ∷ []
certified_in s (record_kinds.Authority a) = []
certified_in s (record_kinds.Calculated eoa svl trip) = []
certified_in s (record_kinds.Restrict r) = []
certified_in s (record_kinds.Revoke id) = []

-- those of turns
abbrev pub certified_by : List Turn → List Certified
certified_by [] = []
certified_by (t ∷ ts) = certified_in t.before t.event ++ certified_by ts

-- CERTIFICATES HOLD ON THE MAP ABOVE THEM: the input has data, and its output is read back as the map of their A_safe
-- and as the claims of the first so many readings that are certified, with marks that hold on this map
pub record AreCertificatesHeld (count : ℕ) (bytes : List ℕ) : Type 0 where
  pub read : TrainAndTrack
  pub is_read : data_before bytes (divide bytes) ≡ Some read
  pub held : (output : Output) (is : IsCertifyOutput count bytes output) →
      IsHeldText (slopes_of Safe read) output.text (certified_by (certified_turns count is.turns))
