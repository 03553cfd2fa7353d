-- Numbers and records as they are written.
use Rattle.std.proofs.Common.{◌≡◌, refl}
use Rattle.std.specs.Prelude.{pos, negsuc, true, [], ◌∷◌, Ok, Err, codes, map}
use Rattle.sdm_num.specs.Readings.{reading_of}
use Rattle.sdm_rules.specs.declared.authorities.Authority.TheVariants.{Stop, Limit}
use Rattle.sdm_rules.specs.declared.records.Event.TheVariants as record_kinds
use Rattle.sdm_rules.specs.declared.faults.FieldFault.TheVariants.{NotNumber, OutOfRange}
use Rattle.sdm_rules.specs.declared.faults.EventFault.TheVariants.{UnknownKind, FieldCount, Field}
use Rattle.sdm_formats.specs.Numbers.{read_int}
use Rattle.sdm_formats.specs.Forms.{event_of, read_form, end_form, endcalc_form, limit_form, restrict_form, revoke_form}

-- zeros in front, minus zero, the least and the greatest number
accepted_numbers : map (λ field. read_int field (negsuc 99) (pos 99))
    (codes "007" ∷ codes "-0" ∷ codes "-100" ∷ codes "99" ∷ []) ≡ Ok (pos 7) ∷ Ok (pos 0) ∷ Ok (negsuc 99)
    ∷ Ok (pos 99) ∷ []
unfolding read_int
accepted_numbers = refl

-- no digit, a plus sign, a space, a lone minus sign, nineteen digits
not_numbers : map (λ field. read_int field (pos 0) (pos 9)) ([] ∷ codes "+1" ∷ codes "1 " ∷ codes "-"
    ∷ codes "1000000000000000000" ∷ []) ≡ Err NotNumber ∷ Err NotNumber ∷ Err NotNumber ∷ Err NotNumber ∷ Err NotNumber
    ∷ []
unfolding read_int
not_numbers = refl

-- above the range, below it, and far above it
out_of_range : map (λ field. read_int field (pos 0) (pos 9))
    (codes "10" ∷ codes "-1" ∷ codes "999999999999999999" ∷ []) ≡ Err OutOfRange ∷ Err OutOfRange ∷ Err OutOfRange ∷ []
unfolding read_int
out_of_range = refl

-- the fields of a reading in their order
a_reading : event_of (codes "read" ∷ codes "25" ∷ codes "3400000" ∷ codes "3395000" ∷ codes "3405000" ∷ codes "40000"
    ∷ codes "-3" ∷ codes "500" ∷ [])
    ≡ Ok (record_kinds.Read (reading_of 25 (pos 3_400_000) (pos 3_395_000) (pos 3_405_000) 40_000 (negsuc 2) 500))
unfolding event_of read_form read_int
a_reading = refl

-- an end of authority and a limit
authorities : map event_of ((codes "end" ∷ codes "80000" ∷ codes "81000" ∷ codes "0" ∷ [])
    ∷ (codes "endcalc" ∷ codes "80000" ∷ codes "81000" ∷ codes "80500" ∷ [])
    ∷ (codes "limit" ∷ codes "80000" ∷ codes "60" ∷ []) ∷ []) ≡ Ok (record_kinds.Authority (Stop 80_000 81_000 0))
    ∷ Ok (record_kinds.Calculated 80_000 81_000 80_500)
    ∷ Ok (record_kinds.Authority (Limit 80_000 60)) ∷ []
unfolding event_of end_form endcalc_form limit_form read_int
authorities = refl

-- a restriction and its revocation
restrictions : map event_of ((codes "restrict" ∷ codes "1" ∷ codes "50000" ∷ codes "60000" ∷ codes "80" ∷ codes "1"
    ∷ []) ∷ (codes "revoke" ∷ codes "1" ∷ []) ∷ [])
    ≡ Ok (record_kinds.Restrict (record { id = 1; start = 50_000; end = 60_000; speed = 80; delayed = true }))
    ∷ Ok (record_kinds.Revoke 1) ∷ []
unfolding event_of restrict_form revoke_form read_int
restrictions = refl

-- the kind is tested before the count of fields, this before the columns, and the first column that is refused is
-- named
refused_records : map event_of ((codes "reed" ∷ []) ∷ (codes "read" ∷ codes "x" ∷ [])
    ∷ (codes "end" ∷ codes "1" ∷ codes "x" ∷ codes "501" ∷ []) ∷ (codes "limit" ∷ codes "1" ∷ codes "0" ∷ []) ∷ [])
    ≡ Err UnknownKind ∷ Err FieldCount ∷ Err (Field 3 NotNumber) ∷ Err (Field 3 OutOfRange) ∷ []
unfolding event_of read_form end_form limit_form read_int
refused_records = refl

-- the min safe front end is at most the estimated one
min_past_est : event_of (codes "read" ∷ codes "0" ∷ codes "5" ∷ codes "6" ∷ codes "7" ∷ codes "0" ∷ codes "0"
    ∷ codes "0" ∷ []) ≡ Err (Field 4 OutOfRange)
unfolding event_of read_form read_int
min_past_est = refl
