-- The forms of records, as fields of bytes: the kind, then numbers within ranges (own).
use Rattle.std.specs.Prelude.{ℕ, ℤ, pos, negsuc, List, [], ◌∷◌, Result, Ok, Err, ◌==◌, codes, unsigned_abs}
use Rattle.std.specs.Prelude.{if◌then◌else◌}
use Rattle.std.specs.Str.{bytes_eq}
use Rattle.sdm_num.specs.Readings.{reading_of}
use Rattle.sdm_rules.specs.declared.authorities.Authority.TheVariants.{Stop, Limit}
use Rattle.sdm_rules.specs.declared.records.Event.{Event}
use Rattle.sdm_rules.specs.declared.records.Event.TheVariants as record_kinds
use Rattle.sdm_rules.specs.declared.faults.FieldFault.{FieldFault}
use Rattle.sdm_rules.specs.declared.faults.EventFault.{EventFault}
use Rattle.sdm_rules.specs.declared.faults.EventFault.TheVariants.{UnknownKind, FieldCount, Field}
use Rattle.sdm_rules.specs.Ranges.{longest_track, top_kmh}
use Rattle.sdm_formats.specs.Numbers.{read_int}

-- the rest with the number of a column, or why that column is refused; columns count from 1, the kind being column 1
abbrev pub with_number : ℕ → Result ℤ FieldFault → (ℤ → Result Event EventFault) → Result Event EventFault
with_number column (Err fault) rest = Err (Field column fault)
with_number column (Ok n) rest = rest n

-- a column of a record, read with its range
abbrev pub column : ℕ → List ℕ → ℤ → ℤ → (ℤ → Result Event EventFault) → Result Event EventFault
column n field least greatest rest = with_number n (read_int field least greatest) rest

-- `read`: time in ds; est, min and max front end in mm; speed in mm/s; acceleration in cm/s²; under-reading in mm/s
unfoldable pub read_form : List (List ℕ) → Result Event EventFault
read_form (time ∷ est ∷ min ∷ max ∷ speed ∷ accel ∷ under ∷ []) =
    column 2 time (pos 0) (pos 100_000_000) (λ time.
    column 3 est (negsuc 9_999_999) (pos 110_000_000) (λ est.
    column 4 min (negsuc 9_999_999) est (λ min.
    column 5 max est (pos 110_000_000) (λ max.
    column 6 speed (pos 0) (pos 138_888) (λ speed.
    column 7 accel (negsuc 299) (pos 300) (λ accel.
    column 8 under (pos 0) (pos 10_000) (λ under.
    Ok (record_kinds.Read
    (reading_of (unsigned_abs time) est min max (unsigned_abs speed) accel (unsigned_abs under))))))))))
read_form _ = Err FieldCount

-- `end`: EOA and SvL in cm, release speed in km/h
unfoldable pub end_form : List (List ℕ) → Result Event EventFault
end_form (eoa ∷ svl ∷ release ∷ []) =
    column 2 eoa (pos 0) (pos longest_track) (λ eoa.
    column 3 svl (pos 0) (pos longest_track) (λ svl.
    column 4 release (pos 0) (pos top_kmh) (λ release.
    Ok (record_kinds.Authority (Stop (unsigned_abs eoa) (unsigned_abs svl) (unsigned_abs release))))))
end_form _ = Err FieldCount

-- `endcalc`: EOA, SvL and the place of the trip in cm
unfoldable pub endcalc_form : List (List ℕ) → Result Event EventFault
endcalc_form (eoa ∷ svl ∷ trip ∷ []) =
    column 2 eoa (pos 0) (pos longest_track) (λ eoa.
    column 3 svl (pos 0) (pos longest_track) (λ svl.
    column 4 trip (pos 0) (pos longest_track) (λ trip.
    Ok (record_kinds.Calculated (unsigned_abs eoa) (unsigned_abs svl) (unsigned_abs trip)))))
endcalc_form _ = Err FieldCount

-- `limit`: LOA in cm, speed in km/h
unfoldable pub limit_form : List (List ℕ) → Result Event EventFault
limit_form (loa ∷ speed ∷ []) =
    column 2 loa (pos 0) (pos longest_track) (λ loa.
    column 3 speed (pos 1) (pos top_kmh) (λ speed.
    Ok (record_kinds.Authority (Limit (unsigned_abs loa) (unsigned_abs speed)))))
limit_form _ = Err FieldCount

-- `restrict`: identity, start and end in cm, speed in km/h, delayed 0 or 1
unfoldable pub restrict_form : List (List ℕ) → Result Event EventFault
restrict_form (id ∷ start ∷ end ∷ speed ∷ delayed ∷ []) =
    column 2 id (pos 0) (pos 65_535) (λ id.
    column 3 start (pos 0) (pos longest_track) (λ start.
    column 4 end (pos 0) (pos longest_track) (λ end.
    column 5 speed (pos 1) (pos top_kmh) (λ speed.
    column 6 delayed (pos 0) (pos 1) (λ delayed.
    Ok (record_kinds.Restrict (record {
      id = unsigned_abs id;
      start = unsigned_abs start;
      end =
          unsigned_abs end;
      speed = unsigned_abs speed;
      delayed = unsigned_abs delayed == 1;
    })))))))
restrict_form _ = Err FieldCount

-- `revoke`: identity
unfoldable pub revoke_form : List (List ℕ) → Result Event EventFault
revoke_form (id ∷ []) = column 2 id (pos 0) (pos 65_535) (λ id. Ok (record_kinds.Revoke (unsigned_abs id)))
revoke_form _ = Err FieldCount

-- the event of a record, or why its form is refused: its kind, then the count of its fields, then the first column
unfoldable pub event_of : List (List ℕ) → Result Event EventFault
event_of [] = Err UnknownKind
event_of (kind ∷ fields) =
    if bytes_eq kind (codes "read") then read_form fields
    else if bytes_eq kind (codes "end") then end_form fields
    else if bytes_eq kind (codes "endcalc") then endcalc_form fields
    else if bytes_eq kind (codes "limit") then limit_form fields
    else if bytes_eq kind (codes "restrict") then restrict_form fields
    else if bytes_eq kind (codes "revoke") then revoke_form fields
    else Err UnknownKind
