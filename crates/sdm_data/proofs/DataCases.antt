-- The data of documents: those of examples/approach and examples/refused-data, and what the two versions write.
use Rattle.std.proofs.Common.{◌≡◌, refl}
use Rattle.std.specs.Prelude.{ℕ, ℤ, pos, negsuc, true, false, List, [], ◌∷◌, Option, Some, None, Ok, Err, codes}
use Rattle.toml.specs.Data.{Data, integer, boolean, string, array, table, Items, no_items, item, Members, no_members}
use Rattle.toml.specs.Data.{member}
use Rattle.sdm_rules.specs.declared.authorities.Authority.TheVariants.{Stop}
use Rattle.sdm_rules.specs.declared.data.Gradient.{Gradient}
use Rattle.sdm_rules.specs.declared.data.Area.{Area}
use Rattle.sdm_rules.specs.declared.faults.Section.TheVariants as sections
use Rattle.sdm_rules.specs.Data.{TrainAndTrack}
use Rattle.sdm_rules.specs.Ranges.{train_fault, national_fault, track_fault, gradients_fault, speeds_fault, areas_fault}
use Rattle.sdm_formats.specs.declared.faults.DataFault.TheVariants.{Missing, UnknownKey}
use Rattle.sdm_formats.specs.FaultLines.{key_names}
use Rattle.sdm_data.specs.Members.{known, required, optional, number}
use Rattle.sdm_data.specs.Sections.{root_in, band_in, train_in, national_in, gradient_in, speed_in, area_in}
use Rattle.sdm_data.specs.Sections.{track_in, authority_in, end_in}
use Rattle.sdm_data.specs.Journey.{data_of}

-- the members of a table
unfoldable pub members : List (List ℕ × Data) → Members
members [] = no_members
members (entry ∷ more) = member entry.0 entry.1 (members more)

-- an array of tables
unfoldable pub tables : List (List (List ℕ × Data)) → Data
tables entries = array (items entries)
  where
    items : List (List (List ℕ × Data)) → Items
    items [] = no_items
    items (entry ∷ more) = item (table (members entry)) (items more)

-- in a version, a track of 2000 m for 160 km/h with these members besides, and a train of a length, whose one band has
-- 1 m/s² for each brake and these members besides
document : ℤ → ℤ → List (List ℕ × Data) → List (List ℕ × Data) → Members
document version length of_band of_track =
    members (
    (codes "version", integer version)
    ∷ (
      codes "train",
      table (members (
          (codes "length", integer length)
          ∷ (codes "max_speed", integer (pos 160))
          ∷ (codes "rotating_mass", integer (pos 0))
          ∷ (codes "traction_cutoff_time", integer (pos 0))
          ∷ (codes "traction_cutoff_interface", boolean false)
          ∷ (codes "emergency_time", integer (pos 0))
          ∷ (codes "service_time", integer (pos 0))
          ∷ (codes "service_brake", boolean true)
          ∷ (
            codes "band",
            tables ((
                (codes "emergency", integer (pos 100))
                ∷ (codes "service", integer (pos 100))
                ∷ (codes "normal", integer (pos 100))
                ∷ (codes "kdry", integer (pos 1000))
                ∷ (codes "kwet", integer (pos 1000))
                ∷ (codes "kn_up", integer (pos 0))
                ∷ (codes "kn_down", integer (pos 0))
                ∷ of_band
                ) ∷ []),
          )
          ∷ []
          )),
    )
    ∷ (
      codes "national",
      table (members (
          (codes "avadh", integer (pos 20))
          ∷ (codes "adhesion_max", integer (pos 70))
          ∷ (codes "guidance", boolean false)
          ∷ (codes "service_in_target", boolean true)
          ∷ (codes "early_release", boolean false)
          ∷ (codes "inhibit_under_reading", boolean false)
          ∷ []
          )),
    )
    ∷ (
      codes "track",
      table (members (
          (codes "length", integer (pos 200_000))
          ∷ (codes "speed", tables (((codes "start", integer (pos 0)) ∷ (codes "speed", integer (pos 160)) ∷ []) ∷ []))
          ∷ of_track
          )),
    )
    ∷ (
      codes "authority",
      table (members (
          (codes "kind", string (codes "end"))
          ∷ (codes "eoa", integer (pos 100_000))
          ∷ (codes "svl", integer (pos 100_000))
          ∷ []
          )),
    )
    ∷ []
    )

-- the data of such a document
journey : Option ℤ → List Gradient → List Area → TrainAndTrack
journey emergency_reduced gradients no_special = record {
  train = record {
    length_cm = pos 10_000;
    max_speed = pos 160;
    rotating_mass = Some (pos 0);
    cut_off_time = pos 0;
    cut_off_interface = false;
    emergency_time = pos 0;
    service_time = pos 0;
    service_brake = true;
    bands = record {
      upper = None;
      emergency = pos 100;
      service = pos 100;
      normal = pos 100;
      kdry = pos 1000;
      kwet =
          pos 1000;
      kn_up = pos 0;
      kn_down = pos 0;
      emergency_reduced = emergency_reduced;
    } ∷ [];
  };
  national = record {
    avadh = pos 20;
    adhesion_max = pos 70;
    guidance = false;
    service_in_target = true;
    early_release =
        false;
    inhibit_under_reading = false;
  };
  track = record {
    length_cm = pos 200_000;
    gradients = gradients;
    speeds = record {
      start = pos 0;
      speed = pos 160;
      delayed = true;
    } ∷ [];
    areas = [];
    no_special = no_special;
  };
}

-- the data of examples/approach
approach : data_of (document (pos 1) (pos 10_000) [] []) ≡ Ok (journey None [] [], Stop 100_000 100_000 0)
unfolding document journey tables members data_of root_in band_in train_in national_in gradient_in speed_in area_in
    track_in authority_in end_in known required optional number key_names train_fault national_fault track_fault
    gradients_fault speeds_fault areas_fault
approach = refl

-- a gradient from 0 on
gradient_from_0 : ℤ → List (List ℕ × Data)
gradient_from_0 grad =
    (codes "gradient", tables (((codes "start", integer (pos 0)) ∷ (codes "grad", integer grad) ∷ []) ∷ [])) ∷ []

-- 5 per mille downhill, as version 1 writes it and as version 2 does
falling : data_of (document (pos 1) (pos 10_000) [] (gradient_from_0 (negsuc 4)))
    ≡ Ok (journey None (record { start = pos 0; grad = negsuc 49 } ∷ []) [], Stop 100_000 100_000 0)
unfolding document journey gradient_from_0 tables members data_of root_in band_in train_in national_in gradient_in
    speed_in area_in track_in authority_in end_in known required optional number key_names train_fault national_fault
    track_fault gradients_fault speeds_fault areas_fault
falling = refl

falling_in_tenths : data_of (document (pos 2) (pos 10_000) [] (gradient_from_0 (negsuc 49)))
    ≡ Ok (journey None (record { start = pos 0; grad = negsuc 49 } ∷ []) [], Stop 100_000 100_000 0)
unfolding document journey gradient_from_0 tables members data_of root_in band_in train_in national_in gradient_in
    speed_in area_in track_in authority_in end_in known required optional number key_names train_fault national_fault
    track_fault gradients_fault speeds_fault areas_fault
falling_in_tenths = refl

-- 0.80 m/s² where the special brake is not used
with_emergency_reduced : List (List ℕ × Data)
with_emergency_reduced = (codes "emergency_reduced", integer (pos 80)) ∷ []

-- it is not used from 900 m to 1000 m
with_no_special : List (List ℕ × Data)
with_no_special = (
  codes "no_special",
  tables (((codes "start", integer (pos 90_000)) ∷ (codes "end", integer (pos 100_000)) ∷ []) ∷ []),
) ∷ []

-- version 2 reads both
special_brake : data_of (document (pos 2) (pos 10_000) with_emergency_reduced with_no_special)
    ≡ Ok (journey (Some (pos 80)) [] (record { start = pos 90_000; end = pos 100_000 } ∷ []), Stop 100_000 100_000 0)
unfolding document journey with_emergency_reduced with_no_special tables members data_of root_in band_in train_in
    national_in gradient_in speed_in area_in track_in authority_in end_in known required optional number key_names
    train_fault national_fault track_fault gradients_fault speeds_fault areas_fault
special_brake = refl

-- version 1 has neither of the two keys
special_brake_in_version_1 : data_of (document (pos 1) (pos 10_000) with_emergency_reduced with_no_special)
    ≡ Err (UnknownKey sections.Band 1)
unfolding document with_emergency_reduced with_no_special tables members data_of root_in band_in train_in known
    required optional key_names
special_brake_in_version_1 = refl

no_special_in_version_1 : data_of (document (pos 1) (pos 10_000) [] with_no_special)
    ≡ Err (UnknownKey sections.Track 0)
unfolding document with_no_special tables members data_of root_in band_in train_in national_in track_in known required
    optional key_names
no_special_in_version_1 = refl

-- a train of 0 cm, and a second gradient without `grad`, its second key: the missing key comes first
refused_data :
    data_of (document (pos 1) (pos 0) [] ((
      codes "gradient",
      tables (((codes "start", integer (pos 0))
          ∷ (codes "grad", integer (pos 0)) ∷ []) ∷ ((codes "start", integer (pos 50_000)) ∷ []) ∷ []),
    ) ∷ []))
    ≡ Err (Missing (record { section = sections.Gradient; index = 2; key = 2 }))
unfolding document tables members data_of root_in band_in train_in national_in gradient_in speed_in area_in
    track_in authority_in end_in known required optional number key_names
refused_data = refl
