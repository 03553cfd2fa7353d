-- What a summary counts of the rows of a journey (own).
use Rattle.std.specs.Prelude.{ℕ, ℤ, pos, List, count_by, length}
use Rattle.std.specs.Int.{int_rem_euclid}
use Rattle.sdm_rules.specs.declared.rows.Row.{Row}
use Rattle.sdm_formats.specs.Trial.{ebi_sum}

-- how many rows there are, how many of them are covered or have a brake commanded, and the sum of the EBI places in
-- mm, modulo 10^9
pub record Counts : Type 0 where
  pub rows : ℕ
  pub covered : ℕ
  pub emergency : ℕ
  pub service : ℕ
  pub ebi : ℤ

-- the counts of rows
abbrev pub counts_of : List Row → Counts
counts_of rows = record {
  rows = length rows;
  covered = count_by (λ r. r.covered) rows;
  emergency = count_by (λ r. r.held.eb) rows;
  service = count_by (λ r. r.held.sb) rows;
  ebi = int_rem_euclid (ebi_sum rows) (pos 1_000_000_000);
}
