-- The entries so far, and then those of what is left, are the entries of the whole list.
use Rattle.std.proofs.Common.{◌≡◌}
use Rattle.sdm_data.specs.Members.{entries_from}
use Rattle.sdm_data.proofs.EntriesLeft.{with_prefix, left}
use Rattle.sdm_data.proofs.lists.entries.Given as goal

abbrev pub invariant-loop-value : goal.invariant-loop-value
invariant-loop-value g l = with_prefix l.entries.items (entries_from (g.T.ReadEntry.entry_in l.list l.version) l.index
    (left l.values l.value-index)) ≡ entries_from (g.T.ReadEntry.entry_in l.list l.version) 1 (left l.values 0)
