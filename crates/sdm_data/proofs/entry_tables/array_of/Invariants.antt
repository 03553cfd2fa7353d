-- The tables so far, and then those of the entries that are left, are the tables of all entries.
use Rattle.std.proofs.Common.{◌≡◌, ◌++◌, map, drop}
use Rattle.toml.specs.View.{view}
use Rattle.sdm_data.proofs.EntryTables.{tables_of}
use Rattle.sdm_data.proofs.entry_tables.array_of.Given as goal

abbrev pub invariant-loop-entry : goal.invariant-loop-entry
invariant-loop-entry g l = map view l.tables.items ++ tables_of g.T.WriteEntry.written (drop l.entry-index l.entries)
    ≡ tables_of g.T.WriteEntry.written l.entries
