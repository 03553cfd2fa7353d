-- The numbers that C passes: which are in their ranges, and the values that those stand for (ranges own).
use Rattle.std.specs.Prelude.{ℕ, ℤ, pos, negsuc, Bool, ◌&&◌, ◌==◌, nat_le, if◌then◌else◌}
use Rattle.sdm_num.specs.Readings.{OdometerReading, reading_of}
use Rattle.sdm_rules.specs.declared.restrictions.Restriction.{Restriction}
use Rattle.sdm_rules.specs.Ranges.{is_within, top_kmh}
use Rattle.sdm_row_laws.specs.Clearances.{Allowance}
use Rattle.sdm_supervisor.specs.Clearances.{allowance_of}
use Rattle.sdm_c.specs.declared.structs.AllowanceC.{AllowanceC}
use Rattle.sdm_c.specs.declared.structs.ReadingC.{ReadingC}
use Rattle.sdm_c.specs.declared.structs.RestrictionC.{RestrictionC}

-- the front ends are in order, from 10 km before the track's start to 110 km past it, in mm (own)
abbrev pub are_front_ends : ℤ → ℤ → ℤ → Bool
are_front_ends min est max = is_within (negsuc 9_999_999) est min && is_within est (pos 110_000_000) max

-- an acceleration in cm/s² is in its range (own)
abbrev pub is_acceleration : ℤ → Bool
is_acceleration accel = is_within (negsuc 299) (pos 300) accel

-- V_est and the under-reading amount in mm/s and A_est in cm/s² are in their ranges (own)
abbrev pub is_motion : ℕ → ℤ → ℕ → Bool
is_motion speed accel under = nat_le speed 138_888 && is_acceleration accel && nat_le under 10_000

-- the numbers of a reading are in their ranges (own)
abbrev pub is_reading : ReadingC → Bool
is_reading r =
    nat_le r.time_ds 100_000_000 && are_front_ends r.min_mm r.est_mm r.max_mm
    && is_motion r.speed_mm_s r.accel_cm_s2 r.under_mm_s

-- the odometer reading of these numbers (own)
abbrev pub reading_from : ReadingC → OdometerReading
reading_from r = reading_of r.time_ds r.est_mm r.min_mm r.max_mm r.speed_mm_s r.accel_cm_s2 r.under_mm_s

-- the greatest identity of a restriction, and the greatest number of 16 bits (own)
abbrev pub greatest_identity : ℕ
greatest_identity = 65_535

-- the number is an identity of a restriction (own)
abbrev pub is_identity : ℕ → Bool
is_identity id = nat_le id greatest_identity

-- the identity, the speed in km/h and the flag of a restriction are in their ranges (own)
abbrev pub is_restriction : RestrictionC → Bool
is_restriction r =
    is_identity r.id && (nat_le 1 r.speed_kmh && nat_le r.speed_kmh top_kmh) && nat_le r.is_delayed 1

-- the restriction of these numbers (own)
abbrev pub restriction_from : RestrictionC → Restriction
restriction_from r = record {
  id = r.id;
  start = r.start_cm;
  end = r.end_cm;
  speed = r.speed_kmh;
  delayed = r.is_delayed == 1;
}

-- a speed in km/h of an authority as it is passed on: a greater one than 65,535 as 65,535, which is refused as well
-- (own)
abbrev pub kmh_taken : ℕ → ℕ
kmh_taken kmh = if nat_le kmh 65_535 then kmh else 65_535

-- the numbers of an allowance are in their ranges (own)
abbrev pub is_allowance : AllowanceC → Bool
is_allowance a = nat_le a.front_mm 10_000_000 && nat_le a.speed_mm_s 10_000 && nat_le a.accel_cm_s2 300

-- the allowance of these numbers (own)
abbrev pub allowance_from : AllowanceC → Allowance
allowance_from a = allowance_of a.front_mm a.speed_mm_s a.accel_cm_s2
