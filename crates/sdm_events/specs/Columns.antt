-- The columns of a record, counted from 1, the kind being column 1 (own).
use Rattle.std.specs.Prelude.{◌≡◌, ◌-◌, ℕ, ℤ, List, [], Result, Err, slice_index_or}
use Rattle.sdm_rules.specs.declared.faults.FieldFault.{FieldFault}
use Rattle.sdm_rules.specs.declared.faults.EventFault.{EventFault}
use Rattle.sdm_rules.specs.declared.faults.EventFault.TheVariants.{Field}

-- the field of a column
abbrev pub column_of : List (List ℕ) → ℕ → List ℕ
column_of fields column = slice_index_or fields (column - 1) []

-- the fault of a record is that of a column, whose number couldn't be read
abbrev pub IsColumnFault : ℕ → Result ℤ FieldFault → EventFault → Type 0
IsColumnFault column number e = (fault : FieldFault) × (number ≡ Err fault) × (e ≡ Field column fault)
