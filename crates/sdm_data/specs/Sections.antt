-- What each section of the data part holds, or the first rule that it breaks: UnknownKey, and then key by key Missing,
-- WrongKind and, for some, Value (own).
use Rattle.std.specs.Prelude.{ℕ, pos, true, List, [], Option, Result, Ok, Err, codes, unwrap_or, if◌then◌else◌}
use Rattle.std.specs.Str.{bytes_eq}
use Rattle.toml.specs.Data.{Members, as_integer, as_bool, as_str, as_table}
use Rattle.sdm_rules.specs.declared.authorities.Authority.{Authority}
use Rattle.sdm_rules.specs.declared.authorities.Authority.TheVariants.{Stop, Limit}
use Rattle.sdm_rules.specs.declared.data.Band.{Band}
use Rattle.sdm_rules.specs.declared.data.NationalFields.{NationalFields}
use Rattle.sdm_rules.specs.declared.data.Gradient.{Gradient}
use Rattle.sdm_rules.specs.declared.data.SpeedStep.{SpeedStep}
use Rattle.sdm_rules.specs.declared.data.Area.{Area}
use Rattle.sdm_rules.specs.declared.faults.Section.{Section}
use Rattle.sdm_rules.specs.declared.faults.Section.TheVariants as sections
use Rattle.sdm_rules.specs.Keys as keys
use Rattle.sdm_rules.specs.Data.{TrainData, TrackData}
use Rattle.sdm_rules.specs.Ranges.{longest_track, top_kmh}
use Rattle.sdm_formats.specs.declared.faults.DataFault.{DataFault}
use Rattle.sdm_formats.specs.declared.faults.DataFault.TheVariants.{Value}
use Rattle.sdm_formats.specs.FaultLines.{key_names}
use Rattle.sdm_data.specs.declared.versions.Version.{Version}
use Rattle.sdm_data.specs.Versions.{version_of, known_keys, in_tenths, end_keys, limit_keys}
use Rattle.sdm_data.specs.Members.{◌>>=◌, SectionMembers, section_of, at, or_fault, known, required, optional, within}
use Rattle.sdm_data.specs.Members.{number, as_tables, entries_from}

-- ---- the root

-- the version of the data, and the tables of their sections
pub record RootMembers : Type 0 where
  pub version : Version
  pub train : Members
  pub national : Members
  pub track : Members
  pub authority : Members

-- the root of the document
unfoldable pub root_in : Members → Result RootMembers DataFault
root_in members = do
  let root = section_of sections.Root 0 members
  _ ← known root (key_names sections.Root)
  number ← required as_integer root keys.root_version
  version ← or_fault (Value (at root keys.root_version)) (version_of number)
  train ← required as_table root keys.root_train
  national ← required as_table root keys.root_national
  track ← required as_table root keys.root_track
  authority ← required as_table root keys.root_authority
  Ok (record { version = version; train = train; national = national; track = track; authority = authority })

-- ---- the train

-- a speed band; in the last there is no upper speed, and a reduced emergency deceleration may be absent
unfoldable pub band_in : Version → ℕ → Members → Result Band DataFault
band_in version index members = do
  let band = section_of sections.Band index members
  _ ← known band (known_keys version sections.Band)
  upper ← optional as_integer band keys.band_upper
  emergency ← required as_integer band keys.band_emergency
  service ← required as_integer band keys.band_service
  normal ← required as_integer band keys.band_normal
  kdry ← required as_integer band keys.band_kdry
  kwet ← required as_integer band keys.band_kwet
  kn_up ← required as_integer band keys.band_kn_up
  kn_down ← required as_integer band keys.band_kn_down
  emergency_reduced ← optional as_integer band keys.band_emergency_reduced
  Ok (record {
    upper = upper;
    emergency = emergency;
    service = service;
    normal = normal;
    kdry = kdry;
    kwet =
        kwet;
    kn_up = kn_up;
    kn_down = kn_down;
    emergency_reduced = emergency_reduced;
  })

-- the train with all the bands that are given
unfoldable pub train_in : Version → Members → Result TrainData DataFault
train_in version members = do
  let train = section_of sections.Train 0 members
  _ ← known train (known_keys version sections.Train)
  length ← required as_integer train keys.train_length
  max_speed ← required as_integer train keys.train_max_speed
  rotating_mass ← optional as_integer train keys.train_rotating_mass
  cut_off_time ← required as_integer train keys.train_traction_cutoff_time
  cut_off_interface ← required as_bool train keys.train_traction_cutoff_interface
  emergency_time ← required as_integer train keys.train_emergency_time
  service_time ← required as_integer train keys.train_service_time
  service_brake ← required as_bool train keys.train_service_brake
  tables ← required as_tables train keys.train_band
  bands ← entries_from (band_in version) 1 tables
  Ok (record {
    length_cm = length;
    max_speed = max_speed;
    rotating_mass = rotating_mass;
    cut_off_time = cut_off_time;
    cut_off_interface = cut_off_interface;
    emergency_time = emergency_time;
    service_time = service_time;
    service_brake = service_brake;
    bands = bands;
  })

-- ---- the national values

-- the national values
unfoldable pub national_in : Version → Members → Result NationalFields DataFault
national_in version members = do
  let national = section_of sections.National 0 members
  _ ← known national (known_keys version sections.National)
  avadh ← required as_integer national keys.national_avadh
  adhesion_max ← required as_integer national keys.national_adhesion_max
  guidance ← required as_bool national keys.national_guidance
  service_in_target ← required as_bool national keys.national_service_in_target
  early_release ← required as_bool national keys.national_early_release
  inhibit_under_reading ← required as_bool national keys.national_inhibit_under_reading
  Ok (record {
    avadh = avadh;
    adhesion_max = adhesion_max;
    guidance = guidance;
    service_in_target = service_in_target;
    early_release = early_release;
    inhibit_under_reading = inhibit_under_reading;
  })

-- ---- the track

-- a gradient
unfoldable pub gradient_in : Version → ℕ → Members → Result Gradient DataFault
gradient_in version index members = do
  let gradient = section_of sections.Gradient index members
  _ ← known gradient (known_keys version sections.Gradient)
  start ← required as_integer gradient keys.gradient_start
  grad ← required as_integer gradient keys.gradient_grad
  Ok (record { start = start; grad = in_tenths version grad })

-- an entry of the static speed profile; `delayed` may be absent and is true then
unfoldable pub speed_in : Version → ℕ → Members → Result SpeedStep DataFault
speed_in version index members = do
  let speed = section_of sections.Speed index members
  _ ← known speed (known_keys version sections.Speed)
  start ← required as_integer speed keys.speed_start
  kmh ← required as_integer speed keys.speed_speed
  delayed ← optional as_bool speed keys.speed_delayed
  Ok (record { start = start; speed = kmh; delayed = unwrap_or delayed true })

-- an area of one of the lists of areas
unfoldable pub area_in : Section → Version → ℕ → Members → Result Area DataFault
area_in list version index members = do
  let area = section_of list index members
  _ ← known area (known_keys version list)
  start ← required as_integer area keys.area_start
  end ← required as_integer area keys.area_end
  Ok (record { start = start; end = end })

-- no tables where the key of a list is absent
abbrev pub or_no_tables : Option (List Members) → List Members
or_no_tables tables = unwrap_or tables []

-- the track; the gradients and the lists of areas may be absent
unfoldable pub track_in : Version → Members → Result TrackData DataFault
track_in version members = do
  let track = section_of sections.Track 0 members
  _ ← known track (known_keys version sections.Track)
  length ← required as_integer track keys.track_length
  gradient_tables ← optional as_tables track keys.track_gradient
  speed_tables ← required as_tables track keys.track_speed
  area_tables ← optional as_tables track keys.track_adhesion
  no_special_tables ← optional as_tables track keys.track_no_special
  gradients ← entries_from (gradient_in version) 1 (or_no_tables gradient_tables)
  speeds ← entries_from (speed_in version) 1 speed_tables
  areas ← entries_from (area_in sections.Adhesion version) 1 (or_no_tables area_tables)
  no_special ← entries_from (area_in sections.NoSpecial version) 1 (or_no_tables no_special_tables)
  Ok (record { length_cm = length; gradients = gradients; speeds = speeds; areas = areas; no_special = no_special })

-- ---- the authority

-- an authority to an end; the release speed may be absent and is 0 then
unfoldable pub end_in : SectionMembers → Result Authority DataFault
end_in authority = do
  _ ← known authority end_keys
  eoa ← number authority keys.authority_eoa 0 longest_track
  svl ← number authority keys.authority_svl 0 longest_track
  kmh ← optional as_integer authority keys.authority_release
  release ← within authority keys.authority_release 0 top_kmh (unwrap_or kmh (pos 0))
  Ok (Stop eoa svl release)

-- an authority to a limit
unfoldable pub limit_in : SectionMembers → Result Authority DataFault
limit_in authority = do
  _ ← known authority limit_keys
  loa ← number authority keys.authority_loa 0 longest_track
  speed ← number authority keys.authority_speed 1 top_kmh
  Ok (Limit loa speed)

-- the authority: its kind comes first, since the other keys depend on it
unfoldable pub authority_in : Members → Result Authority DataFault
authority_in members = do
  let authority = section_of sections.Authority 0 members
  kind ← required as_str authority keys.authority_kind
  if bytes_eq kind (codes "end") then end_in authority
      else if bytes_eq kind (codes "limit") then limit_in authority
      else Err (Value (at authority keys.authority_kind))
