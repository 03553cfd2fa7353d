-- The table of version 2: how a data part of version 2 writes the data of a journey (own). An optional key is written
-- exactly where the data have a value, `delayed` and `release` always. An optional list is left out if it is empty.
use Rattle.std.specs.Prelude.{ℕ, pos, List, [], ◌∷◌, Option, Some, None, ◌≤◌, codes, map, option_map}
use Rattle.std.specs.Ordering.{nat_cmp, match_ordering}
use Rattle.std.specs.Cmp.Lexicographic.{slice_cmp}
use Rattle.toml.specs.Data.{Data, integer, boolean, string, array, table, Members, no_members, member}
use Rattle.toml.specs.View.{items_of}
use Rattle.sdm_rules.specs.declared.authorities.Authority.{Authority}
use Rattle.sdm_rules.specs.declared.authorities.Authority.TheVariants.{Stop, Limit}
use Rattle.sdm_rules.specs.declared.data.Band.{Band}
use Rattle.sdm_rules.specs.declared.data.NationalFields.{NationalFields}
use Rattle.sdm_rules.specs.declared.data.Gradient.{Gradient}
use Rattle.sdm_rules.specs.declared.data.SpeedStep.{SpeedStep}
use Rattle.sdm_rules.specs.declared.data.Area.{Area}
use Rattle.sdm_rules.specs.declared.faults.Section.{Section}
use Rattle.sdm_rules.specs.declared.faults.Section.TheVariants as sections
use Rattle.sdm_rules.specs.Keys as keys
use Rattle.sdm_rules.specs.Data.{TrainData, TrackData, TrainAndTrack}
use Rattle.sdm_rules.specs.Ranges.{longest_track, top_kmh}
use Rattle.sdm_formats.specs.FaultLines.{key_name}

-- ---- a section, key by key

-- the members with this value at this name, in the order of their names, which is that of a table
abbrev pub put : List ℕ → Data → Members → Members
put name value no_members = member name value no_members
put name value (member other held more) = match_ordering (slice_cmp nat_cmp name other)
    (member name value (member other held more)) (member other value more) (member other held (put name value more))

-- the members with a value at a name, where there are both
abbrev pub put_if_any : Option (List ℕ) → Option Data → Members → Members
put_if_any (Some name) (Some value) members = put name value members
put_if_any (Some name) None members = members
put_if_any None value members = members

-- the members with what the keys of a section hold, by the keys' numbers: each the value that it has, if it has one
abbrev pub with_keys : Section → List (ℕ × Option Data) → Members → Members
with_keys section [] members = members
with_keys section (key ∷ more) members =
    with_keys section more (put_if_any (key_name section key.0) key.1 members)

-- the table of a section whose keys hold this
abbrev pub section_table : Section → List (ℕ × Option Data) → Members
section_table section held = with_keys section held no_members

-- an array of tables
abbrev pub array_of : List Members → Data
array_of tables = array (items_of (map table tables))

-- an array of tables; none where it would be empty
abbrev pub array_if_any : List Members → Option Data
array_if_any [] = None
array_if_any (first ∷ more) = Some (array_of (first ∷ more))

-- ---- the sections

-- a speed band
unfoldable pub band_table : Band → Members
band_table b = section_table sections.Band
    ((keys.band_upper, option_map integer b.upper)
    ∷ (keys.band_emergency, Some (integer b.emergency))
    ∷ (keys.band_service, Some (integer b.service))
    ∷ (keys.band_normal, Some (integer b.normal))
    ∷ (keys.band_kdry, Some (integer b.kdry))
    ∷ (keys.band_kwet, Some (integer b.kwet))
    ∷ (keys.band_kn_up, Some (integer b.kn_up))
    ∷ (keys.band_kn_down, Some (integer b.kn_down))
    ∷ (keys.band_emergency_reduced, option_map integer b.emergency_reduced)
    ∷ [])

-- the train with its bands
unfoldable pub train_table : TrainData → Members
train_table t = section_table sections.Train
    ((keys.train_length, Some (integer t.length_cm))
    ∷ (keys.train_max_speed, Some (integer t.max_speed))
    ∷ (keys.train_rotating_mass, option_map integer t.rotating_mass)
    ∷ (keys.train_traction_cutoff_time, Some (integer t.cut_off_time))
    ∷ (keys.train_traction_cutoff_interface, Some (boolean t.cut_off_interface))
    ∷ (keys.train_emergency_time, Some (integer t.emergency_time))
    ∷ (keys.train_service_time, Some (integer t.service_time))
    ∷ (keys.train_service_brake, Some (boolean t.service_brake))
    ∷ (keys.train_band, Some (array_of (map band_table t.bands)))
    ∷ [])

-- the national values
unfoldable pub national_table : NationalFields → Members
national_table n = section_table sections.National
    ((keys.national_avadh, Some (integer n.avadh))
    ∷ (keys.national_adhesion_max, Some (integer n.adhesion_max))
    ∷ (keys.national_guidance, Some (boolean n.guidance))
    ∷ (keys.national_service_in_target, Some (boolean n.service_in_target))
    ∷ (keys.national_early_release, Some (boolean n.early_release))
    ∷ (keys.national_inhibit_under_reading, Some (boolean n.inhibit_under_reading))
    ∷ [])

-- a gradient, in tenths of a per mille
unfoldable pub gradient_table : Gradient → Members
gradient_table g = section_table sections.Gradient
    ((keys.gradient_start, Some (integer g.start)) ∷ (keys.gradient_grad, Some (integer g.grad)) ∷ [])

-- an entry of the static speed profile
unfoldable pub speed_table : SpeedStep → Members
speed_table s = section_table sections.Speed
    ((keys.speed_start, Some (integer s.start))
    ∷ (keys.speed_speed, Some (integer s.speed))
    ∷ (keys.speed_delayed, Some (boolean s.delayed))
    ∷ [])

-- an area; the keys are the same in both lists of areas
unfoldable pub area_table : Area → Members
area_table a = section_table sections.Adhesion
    ((keys.area_start, Some (integer a.start)) ∷ (keys.area_end, Some (integer a.end)) ∷ [])

-- the track with its lists
unfoldable pub track_table : TrackData → Members
track_table t = section_table sections.Track
    ((keys.track_length, Some (integer t.length_cm))
    ∷ (keys.track_gradient, array_if_any (map gradient_table t.gradients))
    ∷ (keys.track_speed, Some (array_of (map speed_table t.speeds)))
    ∷ (keys.track_adhesion, array_if_any (map area_table t.areas))
    ∷ (keys.track_no_special, array_if_any (map area_table t.no_special))
    ∷ [])

-- the authority, with the keys of its kind
unfoldable pub authority_table : Authority → Members
authority_table (Stop eoa svl release) = section_table sections.Authority
    ((keys.authority_kind, Some (string (codes "end")))
    ∷ (keys.authority_eoa, Some (integer (pos eoa)))
    ∷ (keys.authority_svl, Some (integer (pos svl)))
    ∷ (keys.authority_release, Some (integer (pos release)))
    ∷ [])
authority_table (Limit loa speed) = section_table sections.Authority
    ((keys.authority_kind, Some (string (codes "limit")))
    ∷ (keys.authority_loa, Some (integer (pos loa)))
    ∷ (keys.authority_speed, Some (integer (pos speed)))
    ∷ [])

-- THE TABLE of a journey's data
unfoldable pub table_of : TrainAndTrack → Authority → Members
table_of d authority = section_table sections.Root
    ((keys.root_version, Some (integer (pos 2)))
    ∷ (keys.root_train, Some (table (train_table d.train)))
    ∷ (keys.root_national, Some (table (national_table d.national)))
    ∷ (keys.root_track, Some (table (track_table d.track)))
    ∷ (keys.root_authority, Some (table (authority_table authority)))
    ∷ [])

-- ---- which data are read back from a table

-- the numbers of the authority are in the ranges of their keys
abbrev pub IsAuthorityInRange : Authority → Type 0
IsAuthorityInRange (Stop eoa svl release) = (eoa ≤ longest_track) × (svl ≤ longest_track) × (release ≤ top_kmh)
IsAuthorityInRange (Limit loa speed) = (loa ≤ longest_track) × (1 ≤ speed) × (speed ≤ top_kmh)
