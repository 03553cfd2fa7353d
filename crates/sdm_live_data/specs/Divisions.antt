-- Where a data part ends and where the records begin, in bytes that may be followed by more (own).
use Rattle.std.specs.Prelude.{◌≡◌, ◌≤◌, ◌==◌, ℕ, List, [], ◌++◌, None, Some, drop, length, false, MatchBool}
use Rattle.std.specs.List.{AllByRecursion}
use Rattle.sdm_formats.specs.Lines.{ended_lines}
use Rattle.sdm_data.specs.Division.{divide}
use Rattle.sdm_live_data.specs.declared.data_parts.Division.{Division}

-- no record has begun, whether or not the bytes end by a dividing line
abbrev pub HasNoRecords : List ℕ → Type 0
HasNoRecords bytes = (d r : ℕ) → divide bytes ≡ Some (d, r) → drop r bytes ≡ []

-- the division is that of the bytes: at the end of the input, or whatever follows
pub record IsDivision (bytes : List ℕ) (d : Division) : Type 0 where
  pub divided : MatchBool d.is_end ((divide bytes ≡ Some (d.data_end, d.records_start)) × HasNoRecords bytes)
      ((more : List ℕ) → divide (bytes ++ more) ≡ Some (d.data_end, d.records_start))
  pub order : d.data_end ≤ d.records_start
  pub within : d.records_start ≤ length bytes

-- whole lines, whatever follows them
abbrev pub AreWholeLines : List ℕ → Type 0
AreWholeLines bytes = (more : List ℕ) → ended_lines (bytes ++ more) ≡ ended_lines bytes ++ ended_lines more

-- no line feed
abbrev pub IsUnfed : List ℕ → Type 0
IsUnfed bytes = AllByRecursion (λ b. (b == 10) ≡ false) bytes

-- the last line of the bytes begins here: before it are whole lines, of which none divides, and no line feed is in it
pub record IsLastLine (bytes : List ℕ) (start : ℕ) : Type 0 where
  pub before : List ℕ
  pub line : List ℕ
  pub bytes_are : bytes ≡ before ++ line
  pub starts : start ≡ length before
  pub whole : AreWholeLines before
  pub none : divide before ≡ None
  pub unfed : IsUnfed line
