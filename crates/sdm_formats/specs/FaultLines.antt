-- The line that says how an input ended (own).
use Rattle.std.specs.Prelude.{ℕ, zero, suc, List, [], ◌∷◌, ◌++◌, Option, Some, None, codes, decimal, slice_get}
use Rattle.std.specs.Fmt.{signed_decimal}
use Rattle.sdm_rules.specs.declared.data.SlopeKind.{SlopeKind}
use Rattle.sdm_rules.specs.declared.data.SlopeKind.TheVariants.{Safe, Expected, Normal}
use Rattle.sdm_rules.specs.declared.faults.Section.{Section}
use Rattle.sdm_rules.specs.declared.faults.Section.TheVariants as sections
use Rattle.sdm_rules.specs.Keys as keys
use Rattle.sdm_rules.specs.declared.faults.TrainFault.{TrainFault}
use Rattle.sdm_rules.specs.declared.faults.TrainFault.TheVariants as train_faults
use Rattle.sdm_rules.specs.declared.faults.NationalFault.{NationalFault}
use Rattle.sdm_rules.specs.declared.faults.NationalFault.TheVariants as national_faults
use Rattle.sdm_rules.specs.declared.faults.TrackFault.{TrackFault}
use Rattle.sdm_rules.specs.declared.faults.TrackFault.TheVariants as track_faults
use Rattle.sdm_rules.specs.declared.faults.AuthorityFault.{AuthorityFault}
use Rattle.sdm_rules.specs.declared.faults.AuthorityFault.TheVariants.{SvlBeforeEoa, BeyondTrack, BadSpeed}
use Rattle.sdm_rules.specs.declared.faults.RestrictFault.{RestrictFault}
use Rattle.sdm_rules.specs.declared.faults.RestrictFault.TheVariants as restrict_faults
use Rattle.sdm_rules.specs.declared.faults.RevokeFault.{RevokeFault}
use Rattle.sdm_rules.specs.declared.faults.RevokeFault.TheVariants as revoke_faults
use Rattle.sdm_rules.specs.declared.faults.FieldFault.{FieldFault}
use Rattle.sdm_rules.specs.declared.faults.FieldFault.TheVariants.{NotNumber, OutOfRange}
use Rattle.sdm_rules.specs.declared.faults.EventFault.{EventFault}
use Rattle.sdm_rules.specs.declared.faults.EventFault.TheVariants as event_faults
use Rattle.sdm_rules.specs.declared.faults.EventCause.{EventCause}
use Rattle.sdm_rules.specs.declared.faults.EventCause.TheVariants as causes
use Rattle.sdm_rules.specs.declared.faults.OpenFault.{OpenFault}
use Rattle.sdm_rules.specs.declared.faults.OpenFault.TheVariants as open_faults
use Rattle.sdm_formats.specs.declared.faults.At.{At}
use Rattle.sdm_formats.specs.declared.faults.DataFault.{DataFault}
use Rattle.sdm_formats.specs.declared.faults.DataFault.TheVariants as data_faults
use Rattle.sdm_formats.specs.declared.faults.DriveCause.{DriveCause}
use Rattle.sdm_formats.specs.declared.faults.DriveCause.TheVariants.{NoStop, HasRelease, ShortBuild}
use Rattle.sdm_formats.specs.Input.{End, Done, TooLong, NoSplit, Toml, Data, Undrivable, Refused, BadEvent}

-- ---- keys of the data part

-- the names of a section's keys, by number from 1
unfoldable pub key_names : Section → List (List ℕ)
key_names sections.Root = codes "version" ∷ codes "train" ∷ codes "national" ∷ codes "track" ∷ codes "authority" ∷ []
key_names sections.Train =
    codes "length" ∷ codes "max_speed" ∷ codes "rotating_mass" ∷ codes "traction_cutoff_time"
    ∷ codes "traction_cutoff_interface" ∷ codes "emergency_time" ∷ codes "service_time" ∷ codes "service_brake"
    ∷ codes "band" ∷ []
key_names sections.Band =
    codes "upper" ∷ codes "emergency" ∷ codes "service" ∷ codes "normal" ∷ codes "kdry" ∷ codes "kwet" ∷ codes "kn_up"
    ∷ codes "kn_down" ∷ codes "emergency_reduced" ∷ []
key_names sections.National =
    codes "avadh" ∷ codes "adhesion_max" ∷ codes "guidance" ∷ codes "service_in_target" ∷ codes "early_release"
    ∷ codes "inhibit_under_reading" ∷ []
key_names sections.Track =
    codes "length" ∷ codes "gradient" ∷ codes "speed" ∷ codes "adhesion" ∷ codes "no_special" ∷ []
key_names sections.Gradient = codes "start" ∷ codes "grad" ∷ []
key_names sections.Speed = codes "start" ∷ codes "speed" ∷ codes "delayed" ∷ []
key_names sections.Adhesion = codes "start" ∷ codes "end" ∷ []
key_names sections.NoSpecial = codes "start" ∷ codes "end" ∷ []
key_names sections.Authority =
    codes "kind" ∷ codes "eoa" ∷ codes "svl" ∷ codes "release" ∷ codes "loa" ∷ codes "speed" ∷ []

-- the name of a key of a section, if it has one
abbrev pub key_name : Section → ℕ → Option (List ℕ)
key_name section zero = None
key_name section (suc i) = slice_get (key_names section) i

-- the path of a list of the data part, or of a section
unfoldable pub list_path : Section → List ℕ
list_path sections.Root = codes "root"
list_path sections.Train = codes "train"
list_path sections.Band = codes "train.band"
list_path sections.National = codes "national"
list_path sections.Track = codes "track"
list_path sections.Gradient = codes "track.gradient"
list_path sections.Speed = codes "track.speed"
list_path sections.Adhesion = codes "track.adhesion"
list_path sections.NoSpecial = codes "track.no_special"
list_path sections.Authority = codes "authority"

-- the path of an entry of a list, by its index from 1
abbrev pub entry_path : Section → ℕ → List ℕ
entry_path list index = list_path list ++ codes "[" ++ decimal index ++ codes "]"

-- the path of a section; in a list it has an index
unfoldable pub section_path : Section → ℕ → List ℕ
section_path sections.Root index = list_path sections.Root
section_path sections.Train index = list_path sections.Train
section_path sections.Band index = entry_path sections.Band index
section_path sections.National index = list_path sections.National
section_path sections.Track index = list_path sections.Track
section_path sections.Gradient index = entry_path sections.Gradient index
section_path sections.Speed index = entry_path sections.Speed index
section_path sections.Adhesion index = entry_path sections.Adhesion index
section_path sections.NoSpecial index = entry_path sections.NoSpecial index
section_path sections.Authority index = list_path sections.Authority

-- the path of a key below its section's; where the number names no key, the section's path alone
abbrev pub below : List ℕ → Option (List ℕ) → List ℕ
below path None = path
below path (Some name) = path ++ codes "." ++ name

-- the path of a key of root: its name alone
abbrev pub at_root : Option (List ℕ) → List ℕ
at_root None = list_path sections.Root
at_root (Some name) = name

-- the path of a key
unfoldable pub key_path : Section → ℕ → ℕ → List ℕ
key_path sections.Root index key = at_root (key_name sections.Root key)
key_path sections.Train index key = below (section_path sections.Train index) (key_name sections.Train key)
key_path sections.Band index key = below (section_path sections.Band index) (key_name sections.Band key)
key_path sections.National index key = below (section_path sections.National index) (key_name sections.National key)
key_path sections.Track index key = below (section_path sections.Track index) (key_name sections.Track key)
key_path sections.Gradient index key = below (section_path sections.Gradient index) (key_name sections.Gradient key)
key_path sections.Speed index key = below (section_path sections.Speed index) (key_name sections.Speed key)
key_path sections.Adhesion index key = below (section_path sections.Adhesion index) (key_name sections.Adhesion key)
key_path sections.NoSpecial index key = below (section_path sections.NoSpecial index) (key_name sections.NoSpecial key)
key_path sections.Authority index key = below (section_path sections.Authority index) (key_name sections.Authority key)

-- the path of a key that a fault names
abbrev pub at_path : At → List ℕ
at_path at = key_path at.section at.index at.key

-- ---- faults of the data part

-- the path of a train's value: of the train's own keys where the band is 0
abbrev pub train_path : ℕ → ℕ → List ℕ
train_path zero key = key_path sections.Train 0 key
train_path (suc i) key = key_path sections.Band (suc i) key

-- the text of a fault of the train
unfoldable pub train_text : TrainFault → List ℕ
train_text train_faults.BandCount = codes "band count"
train_text (train_faults.BandOrder band) = codes "band order " ++ entry_path sections.Band band
train_text (train_faults.Value band key) = codes "value " ++ train_path band key

-- the text of a fault of the national values
unfoldable pub national_text : NationalFault → List ℕ
national_text (national_faults.Value key) = codes "value " ++ key_path sections.National 0 key

-- the text of a fault of the track
unfoldable pub track_text : TrackFault → List ℕ
track_text (track_faults.Count list) = codes "count " ++ list_path list
track_text (track_faults.Order list index) = codes "order " ++ entry_path list index
track_text (track_faults.Value list index key) = codes "value " ++ key_path list index key
track_text (track_faults.Gap list) = codes "gap " ++ list_path list

-- the text of refused memory, wherever memory is refused
unfoldable pub memory_text : List ℕ
memory_text = codes "no memory"

-- the text of the first rule that the data part breaks
unfoldable pub data_text : DataFault → List ℕ
data_text (data_faults.Missing at) = codes "bad data: missing " ++ at_path at
data_text (data_faults.UnknownKey section index) = codes "bad data: unknown key in " ++ section_path section index
data_text (data_faults.WrongKind at) = codes "bad data: wrong kind " ++ at_path at
data_text (data_faults.Value at) = codes "bad data: value " ++ at_path at
data_text (data_faults.Train fault) = codes "bad data: " ++ train_text fault
data_text (data_faults.National fault) = codes "bad data: " ++ national_text fault
data_text (data_faults.Track fault) = codes "bad data: " ++ track_text fault
data_text data_faults.Memory = memory_text

-- ---- refusals of the opening and of records

-- why an authority is refused, in words
unfoldable pub authority_text : AuthorityFault → List ℕ
authority_text SvlBeforeEoa = codes "supervised location before end"
authority_text BeyondTrack = codes "beyond track"
authority_text BadSpeed = codes "bad speed"

-- the name of a kind of slope
unfoldable pub kind_text : SlopeKind → List ℕ
kind_text Safe = codes "safe"
kind_text Expected = codes "expected"
kind_text Normal = codes "normal"

-- why an opening is refused, in words
unfoldable pub open_text : OpenFault → List ℕ
open_text (open_faults.TooWeak kind band cell slope) = codes "refused: too weak: " ++ kind_text kind ++ codes " band "
    ++ decimal band ++ codes " cell " ++ signed_decimal cell
open_text (open_faults.TooVaried kind band least greatest) =
    codes "refused: too varied: " ++ kind_text kind ++ codes " band " ++ decimal band
open_text (open_faults.BadAuthority fault) = codes "refused: " ++ authority_text fault
open_text open_faults.Memory = memory_text

-- why a field is refused, in words
unfoldable pub field_text : FieldFault → List ℕ
field_text NotNumber = codes "not a number"
field_text OutOfRange = codes "out of range"

-- why the form of a record is refused, in words
unfoldable pub form_text : EventFault → List ℕ
form_text event_faults.UnknownKind = codes "unknown kind"
form_text event_faults.FieldCount = codes "field count"
form_text (event_faults.Field column fault) = codes "field " ++ decimal column ++ codes ": " ++ field_text fault
form_text event_faults.TooMany = codes "too many events"

-- why a restriction is refused, in words
unfoldable pub restrict_text : RestrictFault → List ℕ
restrict_text restrict_faults.Full = codes "too many restrictions"
restrict_text (restrict_faults.IdInUse id) = codes "identity in use"
restrict_text restrict_faults.Value = codes "restriction value"

-- why a revocation is refused, in words
unfoldable pub revoke_text : RevokeFault → List ℕ
revoke_text (revoke_faults.Unknown id) = codes "identity unknown"

-- why a record is refused, in words
unfoldable pub cause_text : EventCause → List ℕ
cause_text (causes.Form fault) = form_text fault
cause_text (causes.Authority fault) = authority_text fault
cause_text causes.BadTrip = codes "bad trip place"
cause_text (causes.Restrict fault) = restrict_text fault
cause_text (causes.Revoke fault) = revoke_text fault
cause_text (causes.TimeBack last time) = codes "time back"
cause_text causes.Line = codes "line"

-- ---- data that can't be driven

-- why data can't be driven, in words
abbrev pub drive_cause_text : DriveCause → List ℕ
drive_cause_text NoStop = codes "no stop"
drive_cause_text HasRelease = codes "release speed"
drive_cause_text ShortBuild = codes "emergency time"

-- ---- the line

-- a line of the fault stream
unfoldable pub fault_line : List ℕ → List ℕ
fault_line text = codes "sdm: " ++ text ++ codes "\n"

-- the line of an end; none where the input was read whole
unfoldable pub end_line : End → List ℕ
end_line Done = []
end_line TooLong = fault_line (codes "input too long")
end_line NoSplit = fault_line (codes "bad data: no %% line")
end_line Toml = fault_line (codes "bad data: not TOML")
end_line (Data fault) = fault_line (data_text fault)
end_line (Undrivable cause) = fault_line (codes "not drivable: " ++ drive_cause_text cause)
end_line (Refused fault) = fault_line (open_text fault)
end_line (BadEvent n cause) = fault_line (codes "bad event " ++ decimal n ++ codes ": " ++ cause_text cause)
