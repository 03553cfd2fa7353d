-- Times, reaction and margins of worked examples, each computed by hand in m/s and m.
use Rattle.std.proofs.Common.{◌≡◌, refl, ◌*◌, ◌+◌}
use Rattle.std.specs.Prelude.{pos, negsuc, true, false, [], ◌∷◌, map}
use Rattle.sdm_num.specs.Units.{notches, notches_of_mm_s, millimetre}
use Rattle.sdm_rules.specs.Margins.{ebi_margin, sbi_margin, warning_margin}
use Rattle.sdm_rules.specs.Reaction.{times_of, build_up, v_bec, d_bec}

-- a cut-off of 1 s without an interface, an emergency brake of 3 s
no_interface : times_of 10 false 30 0 true ≡ record { traction = 10; berem = 20; bs = 0; indication = 90 }
no_interface = refl

-- with an interface a cut-off of 2 s is over before warning (2 s) and service brake (4 s) are
cut_off_within_warning_and_service : times_of 20 true 30 40 true ≡ record {
  traction = 0;
  berem = 30;
  bs = 40;
  indication = 90;
}
cut_off_within_warning_and_service = refl

-- one of 7 s is not: 1 s is left
cut_off_longer_than_both : times_of 70 true 30 40 true ≡ record { traction = 10; berem = 20; bs = 40; indication = 90 }
cut_off_longer_than_both = refl

-- 0.8 times a service brake of 6.5 s is 5.2 s, above the 5 s that are taken at least; one that is not in use counts as
-- 0
long_service_brake : times_of 0 false 0 65 true ≡ record { traction = 0; berem = 0; bs = 65; indication = 92 }
long_service_brake = refl

service_brake_not_in_use : times_of 0 false 0 65 false ≡ record { traction = 0; berem = 0; bs = 0; indication = 90 }
service_brake_not_in_use = refl

-- 20 m/s with 0.5 m/s² over 1 s, and with 0.4 m/s² over 2 s: V_bec is 20 + 0.5 + 0.8 = 21.3 m/s
speed_of_reaction : v_bec (build_up (times_of 10 false 30 0 true) (notches_of_mm_s 20_000) (pos 50)) 0
    ≡ notches_of_mm_s 21_300
speed_of_reaction = refl

-- D_bec is 20.25 m in the first second and (20.5 + 0.4) * 2 = 41.8 m in the other two
distance_of_reaction : d_bec (build_up (times_of 10 false 30 0 true) (notches_of_mm_s 20_000) (pos 50)) 0 ≡ 62_050
    * millimetre
distance_of_reaction = refl

-- a train that brakes already gains nothing: 3 s at 20 m/s
distance_while_braking : d_bec (build_up (times_of 10 false 30 0 true) (notches_of_mm_s 20_000) (negsuc 99)) 0 ≡ 60_000
    * millimetre
distance_while_braking = refl

-- a target at 25 m/s counts for both distances: 1 s and (25 + 0.4) * 2 = 50.8 m
distance_to_a_faster_target : d_bec (build_up (times_of 10 false 30 0 true) (notches_of_mm_s 20_000) (pos 50))
    (notches_of_mm_s 25_000) ≡ 75_800 * millimetre
distance_to_a_faster_target = refl

-- the EBI ceiling over 160 km/h is 171.25 km/h
ebi_ceiling : notches 160 + ebi_margin 160 ≡ 171_250 * 15
ebi_ceiling = refl

-- the margins over 160 km/h are 11.25, 7.75 and 5 km/h
margins_at_160 : (ebi_margin 160 ∷ sbi_margin 160 ∷ warning_margin 160 ∷ []) ≡ 168_750 ∷ 116_250 ∷ 75_000 ∷ []
margins_at_160 = refl

-- each margin begins to rise at 110 km/h, and stands from 140 or 210 km/h on
ebi_margins : map ebi_margin (0 ∷ 110 ∷ 111 ∷ 209 ∷ 210 ∷ 500 ∷ []) ≡ 112_500 ∷ 112_500 ∷ 113_625 ∷ 223_875 ∷ 225_000
    ∷ 225_000 ∷ []
ebi_margins = refl

sbi_margins : map sbi_margin (0 ∷ 110 ∷ 111 ∷ 209 ∷ 210 ∷ 500 ∷ []) ≡ 82_500 ∷ 82_500 ∷ 83_175 ∷ 149_325 ∷ 150_000
    ∷ 150_000 ∷ []
sbi_margins = refl

warning_margins : map warning_margin (0 ∷ 110 ∷ 111 ∷ 139 ∷ 140 ∷ 500 ∷ []) ≡ 60_000 ∷ 60_000 ∷ 60_500 ∷ 74_500
    ∷ 75_000 ∷ 75_000 ∷ []
warning_margins = refl
