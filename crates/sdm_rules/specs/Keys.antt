-- The numbers of the keys of the data part, by which a fault names a key. They count from 1 in each section, in the
-- order of the keys' names (own).
use Rattle.std.specs.Prelude.{ℕ}

-- the root of the document
abbrev pub root_version : ℕ
root_version = 1

abbrev pub root_train : ℕ
root_train = 2

abbrev pub root_national : ℕ
root_national = 3

abbrev pub root_track : ℕ
root_track = 4

abbrev pub root_authority : ℕ
root_authority = 5

-- the train
abbrev pub train_length : ℕ
train_length = 1

abbrev pub train_max_speed : ℕ
train_max_speed = 2

abbrev pub train_rotating_mass : ℕ
train_rotating_mass = 3

abbrev pub train_traction_cutoff_time : ℕ
train_traction_cutoff_time = 4

abbrev pub train_traction_cutoff_interface : ℕ
train_traction_cutoff_interface = 5

abbrev pub train_emergency_time : ℕ
train_emergency_time = 6

abbrev pub train_service_time : ℕ
train_service_time = 7

abbrev pub train_service_brake : ℕ
train_service_brake = 8

abbrev pub train_band : ℕ
train_band = 9

-- a speed band
abbrev pub band_upper : ℕ
band_upper = 1

abbrev pub band_emergency : ℕ
band_emergency = 2

abbrev pub band_service : ℕ
band_service = 3

abbrev pub band_normal : ℕ
band_normal = 4

abbrev pub band_kdry : ℕ
band_kdry = 5

abbrev pub band_kwet : ℕ
band_kwet = 6

abbrev pub band_kn_up : ℕ
band_kn_up = 7

abbrev pub band_kn_down : ℕ
band_kn_down = 8

abbrev pub band_emergency_reduced : ℕ
band_emergency_reduced = 9

-- the national values
abbrev pub national_avadh : ℕ
national_avadh = 1

abbrev pub national_adhesion_max : ℕ
national_adhesion_max = 2

abbrev pub national_guidance : ℕ
national_guidance = 3

abbrev pub national_service_in_target : ℕ
national_service_in_target = 4

abbrev pub national_early_release : ℕ
national_early_release = 5

abbrev pub national_inhibit_under_reading : ℕ
national_inhibit_under_reading = 6

-- the track
abbrev pub track_length : ℕ
track_length = 1

abbrev pub track_gradient : ℕ
track_gradient = 2

abbrev pub track_speed : ℕ
track_speed = 3

abbrev pub track_adhesion : ℕ
track_adhesion = 4

abbrev pub track_no_special : ℕ
track_no_special = 5

-- a gradient
abbrev pub gradient_start : ℕ
gradient_start = 1

abbrev pub gradient_grad : ℕ
gradient_grad = 2

-- an entry of the static speed profile
abbrev pub speed_start : ℕ
speed_start = 1

abbrev pub speed_speed : ℕ
speed_speed = 2

abbrev pub speed_delayed : ℕ
speed_delayed = 3

-- an area
abbrev pub area_start : ℕ
area_start = 1

abbrev pub area_end : ℕ
area_end = 2

-- the authority
abbrev pub authority_kind : ℕ
authority_kind = 1

abbrev pub authority_eoa : ℕ
authority_eoa = 2

abbrev pub authority_svl : ℕ
authority_svl = 3

abbrev pub authority_release : ℕ
authority_release = 4

abbrev pub authority_loa : ℕ
authority_loa = 5

abbrev pub authority_speed : ℕ
authority_speed = 6
