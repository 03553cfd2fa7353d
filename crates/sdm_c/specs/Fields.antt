-- Which number of a struct is out of its range: `enum sdm_field` (own).
use Rattle.std.specs.Prelude.{ℕ, suc, pos, negsuc, Bool, true, false, List, [], ◌∷◌, ◌&&◌, ◌==◌, nat_le, if◌then◌else◌}
use Rattle.sdm_rules.specs.Ranges.{is_within, top_kmh}
use Rattle.sdm_c.specs.declared.structs.AllowanceC.{AllowanceC}
use Rattle.sdm_c.specs.declared.structs.ReadingC.{ReadingC}
use Rattle.sdm_c.specs.declared.structs.RestrictionC.{RestrictionC}
use Rattle.sdm_c.specs.Numbers.{is_acceleration, is_identity}

-- the number of the first test that fails, where the first of all has this one; 0 where none does (own)
abbrev pub first_out : ℕ → List Bool → ℕ
first_out n [] = 0
first_out n (true ∷ more) = first_out (suc n) more
first_out n (false ∷ more) = n

-- the first front end of a reading that is out of its range: 2 to 4, 0 for none (own)
abbrev pub front_end_field : ReadingC → ℕ
front_end_field r = first_out 2
    (is_within (negsuc 9_999_999) (pos 110_000_000) r.est_mm ∷ is_within (negsuc 9_999_999) r.est_mm r.min_mm
    ∷ is_within r.est_mm (pos 110_000_000) r.max_mm ∷ [])

-- the first of its speed, its acceleration and its under-reading amount that is: 5 to 7, 0 for none (own)
abbrev pub motion_field : ReadingC → ℕ
motion_field r = first_out 5
    (nat_le r.speed_mm_s 138_888 ∷ is_acceleration r.accel_cm_s2 ∷ nat_le r.under_mm_s 10_000 ∷ [])

-- a number, or another one where it is 0 (own)
abbrev pub or_next : ℕ → ℕ → ℕ
or_next n next = if n == 0 then next else n

-- the first number of a reading that is out of its range, in the order of `struct sdm_reading`: 1 to 7, 0 for none (own)
abbrev pub reading_field : ReadingC → ℕ
reading_field r = if nat_le r.time_ds 100_000_000 then or_next (front_end_field r) (motion_field r) else 1

-- the first of a restriction's identity, speed and flag that is out of its range: 8 to 10, 0 for none (own)
abbrev pub restriction_field : RestrictionC → ℕ
restriction_field r = first_out 8
    (is_identity r.id ∷ (nat_le 1 r.speed_kmh && nat_le r.speed_kmh top_kmh) ∷ nat_le r.is_delayed 1 ∷ [])

-- the first number of an allowance that is out of its range: 11 to 13, 0 for none (own)
abbrev pub allowance_field : AllowanceC → ℕ
allowance_field a = first_out 11
    (nat_le a.front_mm 10_000_000 ∷ nat_le a.speed_mm_s 10_000 ∷ nat_le a.accel_cm_s2 300 ∷ [])
