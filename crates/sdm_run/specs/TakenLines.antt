-- One line of `flat`: what is taken of it, or why it is refused (own).
use Rattle.std.specs.Prelude.{◌≡◌, ◌⊎◌, ℕ, List, Some, None}
use Rattle.sdm_rules.specs.declared.faults.CycleFault.{CycleFault}
use Rattle.sdm_rules.specs.Records.{time_fault}
use Rattle.sdm_formats.specs.declared.flat_rows.FlatRow.{FlatRow}
use Rattle.sdm_formats.specs.Flat.{FlatSupervision, FlatLine, flat_line, flat_row, after_flat_line}

-- the bytes write a line that is accepted: this is its row, and this the state after it
pub record IsAcceptedLine (old new : FlatSupervision) (bytes : List ℕ) (row : FlatRow) : Type 0 where
  pub line : FlatLine
  pub read : flat_line bytes ≡ Some line
  pub in_time : time_fault old.last_time line.time ≡ None
  pub row_is : row ≡ flat_row old line
  pub after : new ≡ after_flat_line old line

-- the bytes are no line of the form due, or its time is before that of the last accepted one
abbrev pub IsRefusedLine : FlatSupervision → List ℕ → Type 0
IsRefusedLine s bytes = (flat_line bytes ≡ None) ⊎
    ((l : FlatLine) × (fault : CycleFault) × (flat_line bytes ≡ Some l) × (time_fault s.last_time l.time ≡ Some fault))
