-- The versions of the data part, and the keys that each version allows in a section, out of those in `key_names` (own).
use Rattle.std.specs.Prelude.{ℕ, ℤ, pos, neg_ℤ, ◌*ℤ◌, List, Option, Some, None, ◌++◌, take, drop, if◌then◌else◌}
use Rattle.std.specs.Ordering.{int_eq}
use Rattle.sdm_rules.specs.declared.faults.Section.{Section}
use Rattle.sdm_rules.specs.declared.faults.Section.TheVariants.{Band, Track, Authority}
use Rattle.sdm_data.specs.declared.versions.Version.{Version}
use Rattle.sdm_data.specs.declared.versions.Version.TheVariants.{One, Two}
use Rattle.sdm_rules.specs.Ranges.{is_within}
use Rattle.sdm_formats.specs.FaultLines.{key_names}

-- the version of a number
abbrev pub version_of : ℤ → Option Version
version_of n = if int_eq n (pos 1) then Some One else if int_eq n (pos 2) then Some Two else None

-- the keys of a section in data of a version: version 1 has no `emergency_reduced` in a band and no `no_special` in the
-- track
abbrev pub known_keys : Version → Section → List (List ℕ)
known_keys One Band = take 8 (key_names Band)
known_keys One Track = take 4 (key_names Track)
known_keys One section = key_names section
known_keys Two section = key_names section

-- a gradient, as data of a version write it, in tenths of a per mille: version 1 writes it in per mille, from -80 to
-- 80; another number becomes 801, which is refused in its place
abbrev pub in_tenths : Version → ℤ → ℤ
in_tenths One grad = if is_within (neg_ℤ (pos 80)) (pos 80) grad then pos 10 *ℤ grad else pos 801
in_tenths Two grad = grad

-- the keys of an authority to an end: `kind`, `eoa`, `svl` and `release`
abbrev pub end_keys : List (List ℕ)
end_keys = take 4 (key_names Authority)

-- the keys of an authority to a limit: `kind`, `loa` and `speed`
abbrev pub limit_keys : List (List ℕ)
limit_keys = take 1 (key_names Authority) ++ drop 4 (key_names Authority)
