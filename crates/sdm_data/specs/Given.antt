-- What the sections that were read stand for in the definitions (own).
use Rattle.std.specs.Prelude.{take}
use Rattle.toml.specs.View.{table_view}
use Rattle.sdm_rules.specs.Data.{TrainData, TrackData, train_of}
use Rattle.sdm_rules.specs.Slopes.{most_bands}
use Rattle.sdm_data.specs.declared.roots.Root.{Root}
use Rattle.sdm_data.specs.declared.trains.GivenTrain.{GivenTrain}
use Rattle.sdm_data.specs.declared.tracks.GivenTrack.{GivenTrack}
use Rattle.sdm_data.specs.Sections.{RootMembers}

-- the root with its tables
abbrev pub root_of : Root → RootMembers
root_of r = record {
  version = r.version;
  train = table_view r.train.now;
  national = table_view r.national.now;
  track = table_view r.track.now;
  authority = table_view r.authority.now;
}

-- the train that was given, with all of its bands
abbrev pub given_train : GivenTrain → TrainData
given_train t = record (train_of t.own) { bands = t.bands.items }

-- a train with the first of its bands alone, as many as a train may have
abbrev pub with_first_bands : TrainData → TrainData
with_first_bands t = record t { bands = take most_bands t.bands }

-- the track that was given
abbrev pub given_track : GivenTrack → TrackData
given_track t = record {
  length_cm = t.length;
  gradients = t.gradients.items;
  speeds = t.speeds.items;
  areas = t.areas.items;
  no_special = t.no_special.items;
}
