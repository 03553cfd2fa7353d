-- The entries of a list are those so far, and then those of what is left of it.
use Rattle.std.proofs.Common.{ℕ, List, ◌++◌, Result, Ok, Err, drop}
use Rattle.sdm_formats.specs.declared.faults.DataFault.{DataFault}
use Rattle.toml.specs.Data.{Members}
use Rattle.toml.specs.declared.value.Value.{Value}
use Rattle.sdm_data.specs.Views.{tables_in}

-- entries before those of an answer
abbrev pub with_prefix : {A : Type 0} → List A → Result (List A) DataFault → Result (List A) DataFault
with_prefix prefix (Ok xs) = Ok (prefix ++ xs)
with_prefix prefix (Err fault) = Err fault

-- the tables that are left from an index on
abbrev pub left : List Value → ℕ → List Members
left values i = tables_in (drop i values)
