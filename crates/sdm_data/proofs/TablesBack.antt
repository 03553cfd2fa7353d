-- The table of data gives these data back: section by section, what was put at a key is found there. Lists go entry by
-- entry; a key that may be absent goes by whether the data have a value.
use Rattle.std.proofs.Common.{◌≡◌, ℕ, ℤ, pos, ◌≤◌, true, List, [], ◌∷◌, map, length, Option, Some, None, refl}
use Rattle.std.proofs.Common.{ap, arith}
use Rattle.std.proofs.lemmas.Bool.Decides.{nat_tests}
use Rattle.std.specs.Prelude.{Result, Ok, is_some}
use Rattle.std.specs.List.{list_all, filter_map}
use Rattle.toml.specs.Data.{Data, Members, as_table, table}
use Rattle.toml.specs.View.{items_of}
use Rattle.sdm_rules.specs.declared.authorities.Authority.{Authority}
use Rattle.sdm_rules.specs.declared.authorities.Authority.TheVariants.{Stop, Limit}
use Rattle.sdm_rules.specs.declared.data.Band.{Band}
use Rattle.sdm_rules.specs.declared.data.NationalFields.{NationalFields}
use Rattle.sdm_rules.specs.declared.data.Gradient.{Gradient}
use Rattle.sdm_rules.specs.declared.data.SpeedStep.{SpeedStep}
use Rattle.sdm_rules.specs.declared.data.Area.{Area}
use Rattle.sdm_rules.specs.declared.faults.Section.TheVariants as sections
use Rattle.sdm_rules.specs.Data.{TrainData, TrackData, TrainAndTrack}
use Rattle.sdm_rules.specs.Ranges.{is_within, longest_track, top_kmh, train_fault, national_fault, track_fault}
use Rattle.sdm_formats.specs.declared.faults.DataFault.{DataFault}
use Rattle.sdm_formats.specs.FaultLines.{key_names}
use Rattle.sdm_data.specs.declared.versions.Version.TheVariants.{Two}
use Rattle.sdm_data.specs.Members.{known, required, optional, number, after, as_tables, entries_from, values_of}
use Rattle.sdm_data.specs.Sections.{root_in, band_in, train_in, national_in, gradient_in, speed_in, area_in, track_in}
use Rattle.sdm_data.specs.Sections.{authority_in, end_in, limit_in}
use Rattle.sdm_data.specs.Journey.{data_of}
use Rattle.sdm_data.proofs.ReadData.{accepted}
use Rattle.sdm_data.specs.Tables.{array_of, band_table, train_table, national_table, gradient_table}
use Rattle.sdm_data.specs.Tables.{speed_table, area_table, track_table, authority_table, table_of, IsAuthorityInRange}

-- ---- lists

-- the values of an array of tables
values_are : (tables : List Members) → values_of (items_of (map table tables)) ≡ map table tables
values_are [] = refl
values_are (first ∷ more) = ap (λ (values : List Data). table first ∷ values) (values_are more)

-- an array of tables holds tables alone
all_are : (tables : List Members) → list_all (λ value. is_some (as_table value)) (map table tables) ≡ true
all_are [] = refl
all_are (first ∷ more) = all_are more

-- and the tables in it are these
these_are : (tables : List Members) → filter_map as_table (map table tables) ≡ tables
these_are [] = refl
these_are (first ∷ more) = ap (λ (tables : List Members). first ∷ tables) (these_are more)

-- an array of tables is read as these tables
tables_back : (tables : List Members) → as_tables (array_of tables) ≡ Some tables
tables_back tables = rw (values_are tables, all_are tables, these_are tables) refl

-- the entries of a list are read back, where each one is
entries_back : {A : Type 0} (read : ℕ → Members → Result A DataFault) (write : A → Members) →
    ((i : ℕ) (x : A) → read i (write x) ≡ Ok x) → (xs : List A) (i : ℕ) → entries_from read i (map write xs) ≡ Ok xs
entries_back read write each [] i = refl
entries_back read write each (x ∷ xs) i = rw (each i x, entries_back read write each xs (after i)) refl

-- the array of a list's tables is read as these, and they as its entries
record ListBack {A : Type 0} (read : ℕ → Members → Result A DataFault) (write : A → Members) (xs : List A) :
    Type 0 where
  tables : as_tables (array_of (map write xs)) ≡ Some (map write xs)
  entries : entries_from read 1 (map write xs) ≡ Ok xs

-- so it is where each entry is read back
list_back : {A : Type 0} (read : ℕ → Members → Result A DataFault) (write : A → Members) →
    ((i : ℕ) (x : A) → read i (write x) ≡ Ok x) → (xs : List A) → ListBack read write xs
list_back read write each xs =
    record { tables = tables_back (map write xs); entries = entries_back read write each xs 1 }

-- ---- the train

-- with or without an upper speed and a reduced deceleration
band_by : (i : ℕ) (b : Band) (upper reduced : Option ℤ) →
    band_in Two i (band_table (record b { upper = upper; emergency_reduced = reduced }))
    ≡ Ok (record b { upper = upper; emergency_reduced = reduced })
unfolding band_in band_table key_names known required optional
band_by i b None None = refl
band_by i b None (Some reduced) = refl
band_by i b (Some upper) None = refl
band_by i b (Some upper) (Some reduced) = refl

band_back : (i : ℕ) (b : Band) → band_in Two i (band_table b) ≡ Ok b
band_back i b = band_by i b b.upper b.emergency_reduced

bands_back : (t : TrainData) → ListBack (band_in Two) band_table t.bands
bands_back t = list_back (band_in Two) band_table band_back t.bands

-- with or without a rotating mass
train_by : (t : TrainData) (mass : Option ℤ) →
    train_in Two (train_table (record t { rotating_mass = mass })) ≡ Ok (record t { rotating_mass = mass })
unfolding train_in train_table key_names known required optional
train_by t None = let bands = bands_back t in rw (bands.tables, bands.entries) refl
train_by t (Some percent) = let bands = bands_back t in rw (bands.tables, bands.entries) refl

train_back : (t : TrainData) → train_in Two (train_table t) ≡ Ok t
train_back t = train_by t t.rotating_mass

-- ---- the national values

national_back : (n : NationalFields) → national_in Two (national_table n) ≡ Ok n
unfolding national_in national_table key_names known required
national_back n = refl

-- ---- the track

gradient_back : (i : ℕ) (g : Gradient) → gradient_in Two i (gradient_table g) ≡ Ok g
unfolding gradient_in gradient_table key_names known required
gradient_back i g = refl

speed_back : (i : ℕ) (s : SpeedStep) → speed_in Two i (speed_table s) ≡ Ok s
unfolding speed_in speed_table key_names known required optional
speed_back i s = refl

adhesion_back : (i : ℕ) (a : Area) → area_in sections.Adhesion Two i (area_table a) ≡ Ok a
unfolding area_in area_table key_names known required
adhesion_back i a = refl

no_special_back : (i : ℕ) (a : Area) → area_in sections.NoSpecial Two i (area_table a) ≡ Ok a
unfolding area_in area_table key_names known required
no_special_back i a = refl

module _ (t : TrackData) where
  -- the track with these lists, of those that may be absent
  abbrev with_lists : List Gradient → List Area → List Area → TrackData
  with_lists gradients areas no_special = record t { gradients = gradients; areas = areas; no_special = no_special }

  speeds_back : ListBack (speed_in Two) speed_table t.speeds
  speeds_back = list_back (speed_in Two) speed_table speed_back t.speeds

  gradients_back : (gradients : List Gradient) → ListBack (gradient_in Two) gradient_table gradients
  gradients_back gradients = list_back (gradient_in Two) gradient_table gradient_back gradients

  areas_back : (areas : List Area) →
      ListBack (area_in sections.Adhesion Two) area_table areas
  areas_back areas = list_back (area_in sections.Adhesion Two) area_table adhesion_back areas

  no_special_areas_back : (areas : List Area) →
      ListBack (area_in sections.NoSpecial Two) area_table areas
  no_special_areas_back areas =
      list_back (area_in sections.NoSpecial Two) area_table no_special_back areas

  -- with or without each of these lists
  track_by : (gradients : List Gradient) (areas no_special : List Area) →
      track_in Two (track_table (with_lists gradients areas no_special)) ≡ Ok (with_lists gradients areas no_special)
  unfolding track_in track_table key_names known required optional
  track_by [] [] [] = rw (speeds_back.tables, speeds_back.entries) refl
  track_by [] [] (n ∷ ns) = rw (
    speeds_back.tables,
    speeds_back.entries,
    (no_special_areas_back (n ∷ ns)).tables,
    (no_special_areas_back (n ∷ ns)).entries,
  ) refl
  track_by [] (a ∷ more) [] = rw (
    speeds_back.tables,
    speeds_back.entries,
    (areas_back (a ∷ more)).tables,
    (areas_back (a ∷ more)).entries,
  ) refl
  track_by [] (a ∷ more) (n ∷ ns) = rw (
    speeds_back.tables,
    speeds_back.entries,
    (areas_back (a ∷ more)).tables,
    (areas_back (a ∷ more)).entries,
    (no_special_areas_back (n ∷ ns)).tables,
    (no_special_areas_back (n ∷ ns)).entries,
  ) refl
  track_by (g ∷ gs) [] [] = rw (
    speeds_back.tables,
    speeds_back.entries,
    (gradients_back (g ∷ gs)).tables,
    (gradients_back (g ∷ gs)).entries,
  ) refl
  track_by (g ∷ gs) [] (n ∷ ns) = rw (
    speeds_back.tables,
    speeds_back.entries,
    (gradients_back (g ∷ gs)).tables,
    (gradients_back (g ∷ gs)).entries,
    (no_special_areas_back (n ∷ ns)).tables,
    (no_special_areas_back (n ∷ ns)).entries,
  ) refl
  track_by (g ∷ gs) (a ∷ more) [] = rw (
    speeds_back.tables,
    speeds_back.entries,
    (gradients_back (g ∷ gs)).tables,
    (gradients_back (g ∷ gs)).entries,
    (areas_back (a ∷ more)).tables,
    (areas_back (a ∷ more)).entries,
  ) refl
  track_by (g ∷ gs) (a ∷ more) (n ∷ ns) = rw (
    speeds_back.tables,
    speeds_back.entries,
    (gradients_back (g ∷ gs)).tables,
    (gradients_back (g ∷ gs)).entries,
    (areas_back (a ∷ more)).tables,
    (areas_back (a ∷ more)).entries,
    (no_special_areas_back (n ∷ ns)).tables,
    (no_special_areas_back (n ∷ ns)).entries,
  ) refl

  track_back : track_in Two (track_table t) ≡ Ok t
  track_back = track_by t.gradients t.areas t.no_special

-- ---- the authority

-- a number in its range passes the test
in_range : (least greatest n : ℕ) → least ≤ n → n ≤ greatest → is_within (pos least) (pos greatest) (pos n) ≡ true
in_range least greatest n from to = grind (arith, nat_tests)

authority_back : (a : Authority) → IsAuthorityInRange a → authority_in (authority_table a) ≡ Ok a
unfolding authority_in authority_table end_in limit_in number key_names known required optional
authority_back (Stop eoa svl release) h = rw (
  in_range 0 longest_track eoa (omega arith) h.0,
  in_range 0 longest_track svl (omega arith) h.1,
  in_range 0 top_kmh release (omega arith) h.2,
) refl
authority_back (Limit loa speed) h = rw (
  in_range 0 longest_track loa (omega arith) h.0,
  in_range 1 top_kmh speed h.1 h.2,
) refl

-- ---- the whole

-- accepted data are what their table holds
pub table_back : (d : TrainAndTrack) (a : Authority) → train_fault (length d.train.bands) d.train ≡ None →
    national_fault d.national ≡ None → track_fault d.track ≡ None → IsAuthorityInRange a →
    data_of (table_of d a) ≡ Ok (d, a)
unfolding data_of root_in table_of key_names known required
table_back d a train national track range = rw (
  train_back d.train,
  national_back d.national,
  track_back d.track,
  authority_back a range,
  train,
  national,
  track,
) refl

-- data that were read are accepted
pub read_again : (members : Members) (d : TrainAndTrack) (a : Authority) → data_of members ≡ Ok (d, a) →
    data_of (table_of d a) ≡ Ok (d, a)
read_again members d a read =
    let kept = accepted members d a read in
    table_back d a kept.train kept.national kept.track kept.authority
