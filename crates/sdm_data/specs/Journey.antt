-- The data of a journey in a document, or the first rule that it breaks (own).
use Rattle.std.specs.Prelude.{Option, Some, None, Result, Ok, Err, length}
use Rattle.toml.specs.Data.{Members}
use Rattle.sdm_rules.specs.declared.authorities.Authority.{Authority}
use Rattle.sdm_rules.specs.Data.{TrainAndTrack}
use Rattle.sdm_rules.specs.Ranges.{train_fault, national_fault, track_fault}
use Rattle.sdm_formats.specs.declared.faults.DataFault.{DataFault}
use Rattle.sdm_formats.specs.declared.faults.DataFault.TheVariants as data_faults
use Rattle.sdm_data.specs.Members.{◌>>=◌}
use Rattle.sdm_data.specs.Sections.{root_in, train_in, national_in, track_in, authority_in}

-- data that break no rule, or the fault that names the first one
abbrev pub unless_broken : {A F : Type 0} → (F → DataFault) → Option F → A → Result A DataFault
unless_broken fault None kept = Ok kept
unless_broken fault (Some f) kept = Err (fault f)

-- Section by section in the order root, train with its bands, national values, track with its lists, authority; and
-- then the rules of the train, of the national values and of the track.
unfoldable pub data_of : Members → Result (TrainAndTrack × Authority) DataFault
data_of members = do
  root ← root_in members
  train ← train_in root.version root.train
  national ← national_in root.version root.national
  track ← track_in root.version root.track
  authority ← authority_in root.authority
  _ ← unless_broken data_faults.Train (train_fault (length train.bands) train) train
  _ ← unless_broken data_faults.National (national_fault national) national
  _ ← unless_broken data_faults.Track (track_fault track) track
  Ok (record { train = train; national = national; track = track }, authority)
