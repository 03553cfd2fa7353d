-- Each key is read into the field of its name: in every section each key has a value of its own, and those that are true
-- or false have any.
use Rattle.std.proofs.Common.{◌≡◌, refl}
use Rattle.std.specs.Prelude.{ℕ, pos, negsuc, true, false, List, [], ◌∷◌, Some, Ok, codes, Bool}
use Rattle.toml.specs.Data.{Data, integer, boolean, string, Members}
use Rattle.sdm_rules.specs.declared.authorities.Authority.TheVariants.{Stop, Limit}
use Rattle.sdm_formats.specs.FaultLines.{key_names}
use Rattle.sdm_data.specs.declared.versions.Version.TheVariants.{Two}
use Rattle.sdm_data.specs.Members.{known, required, optional, number}
use Rattle.sdm_data.specs.Sections.{band_in, train_in, national_in, gradient_in, speed_in, area_in, track_in}
use Rattle.sdm_data.specs.Sections.{authority_in, end_in, limit_in}
use Rattle.sdm_data.proofs.DataCases.{members, tables}

-- a train of one band; whether the traction cut-off is its interface's, and whether its service brake is in use
train : Bool → Bool → Members
train cut_off_interface service_brake =
    members (
    (codes "length", integer (pos 1))
    ∷ (codes "max_speed", integer (pos 2))
    ∷ (codes "rotating_mass", integer (pos 3))
    ∷ (codes "traction_cutoff_time", integer (pos 4))
    ∷ (codes "traction_cutoff_interface", boolean cut_off_interface)
    ∷ (codes "emergency_time", integer (pos 5))
    ∷ (codes "service_time", integer (pos 6))
    ∷ (codes "service_brake", boolean service_brake)
    ∷ (
      codes "band",
      tables ((
          (codes "upper", integer (pos 7))
          ∷ (codes "emergency", integer (pos 8))
          ∷ (codes "service", integer (pos 9))
          ∷ (codes "normal", integer (pos 10))
          ∷ (codes "kdry", integer (pos 11))
          ∷ (codes "kwet", integer (pos 12))
          ∷ (codes "kn_up", integer (pos 13))
          ∷ (codes "kn_down", integer (pos 14))
          ∷ (codes "emergency_reduced", integer (pos 15))
          ∷ []
          ) ∷ []),
    )
    ∷ []
    )

train_keys : (cut_off_interface service_brake : Bool) → train_in Two (train cut_off_interface service_brake) ≡ Ok (record {
  length_cm = pos 1;
  max_speed = pos 2;
  rotating_mass = Some (pos 3);
  cut_off_time = pos 4;
  cut_off_interface = cut_off_interface;
  emergency_time = pos 5;
  service_time = pos 6;
  service_brake = service_brake;
  bands = record {
    upper = Some (pos 7);
    emergency = pos 8;
    service = pos 9;
    normal = pos 10;
    kdry = pos 11;
    kwet = pos 12;
    kn_up = pos 13;
    kn_down = pos 14;
    emergency_reduced = Some (pos 15);
  } ∷ [];
})
unfolding train members tables train_in band_in known required optional key_names
train_keys cut_off_interface service_brake = refl

-- national values, four of them true or false
national : Bool → Bool → Bool → Bool → Members
national guidance service_in_target early_release inhibit_under_reading =
    members (
    (codes "avadh", integer (pos 1))
    ∷ (codes "adhesion_max", integer (pos 2))
    ∷ (codes "guidance", boolean guidance)
    ∷ (codes "service_in_target", boolean service_in_target)
    ∷ (codes "early_release", boolean early_release)
    ∷ (codes "inhibit_under_reading", boolean inhibit_under_reading)
    ∷ []
    )

national_keys : (guidance service_in_target early_release inhibit_under_reading : Bool) →
    national_in Two (national guidance service_in_target early_release inhibit_under_reading) ≡ Ok (record {
      avadh = pos 1;
      adhesion_max = pos 2;
      guidance = guidance;
      service_in_target = service_in_target;
      early_release = early_release;
      inhibit_under_reading = inhibit_under_reading;
    })
unfolding national members national_in known required key_names
national_keys guidance service_in_target early_release inhibit_under_reading = refl

-- a track with an entry in each of its lists; whether the speed's rise is delayed
track : Bool → Members
track delayed =
    members (
    (codes "length", integer (pos 1))
    ∷ (codes "gradient", tables (((codes "start", integer (pos 2)) ∷ (codes "grad", integer (pos 3)) ∷ []) ∷ []))
    ∷ (
      codes "speed",
      tables ((
          (codes "start", integer (pos 4)) ∷ (codes "speed", integer (pos 5)) ∷ (codes "delayed", boolean delayed) ∷ []
          ) ∷ []),
    )
    ∷ (codes "adhesion", tables (((codes "start", integer (pos 6)) ∷ (codes "end", integer (pos 7)) ∷ []) ∷ []))
    ∷ (codes "no_special", tables (((codes "start", integer (pos 8)) ∷ (codes "end", integer (pos 9)) ∷ []) ∷ []))
    ∷ []
    )

track_keys : (delayed : Bool) → track_in Two (track delayed) ≡ Ok (record {
  length_cm = pos 1;
  gradients = record { start = pos 2; grad = pos 3 } ∷ [];
  speeds = record { start = pos 4; speed = pos 5; delayed = delayed } ∷ [];
  areas = record { start = pos 6; end = pos 7 } ∷ [];
  no_special = record { start = pos 8; end = pos 9 } ∷ [];
})
unfolding track members tables track_in gradient_in speed_in area_in known required optional key_names
track_keys delayed = refl

-- an authority to an end, and one to a limit
end_keys_are_read : authority_in (members (
    (codes "kind", string (codes "end"))
    ∷ (codes "eoa", integer (pos 1))
    ∷ (codes "svl", integer (pos 2))
    ∷ (codes "release", integer (pos 3))
    ∷ []
    )) ≡ Ok (Stop 1 2 3)
unfolding members authority_in end_in known required optional number key_names
end_keys_are_read = refl

limit_keys_are_read : authority_in (members (
    (codes "kind", string (codes "limit")) ∷ (codes "loa", integer (pos 1)) ∷ (codes "speed", integer (pos 2)) ∷ []
    )) ≡ Ok (Limit 1 2)
unfolding members authority_in limit_in known required number key_names
limit_keys_are_read = refl
