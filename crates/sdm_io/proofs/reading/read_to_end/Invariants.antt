-- So far the bytes kept are those that the input lost, none above the limit, and its count has not fallen.
use Rattle.std.proofs.Common.{[], length, ◌-◌, ◌≤◌, vec_len}
use Rattle.sdm_io.specs.Told.{KeepsRead}
use Rattle.sdm_io.proofs.reading.read_to_end.Given as goal

abbrev pub invariant-large : goal.invariant-large
invariant-large g l = record {
  short : length l.bytes.items ≤ l.most;
  read : KeepsRead (g.I.Source.left l.fn.input) (g.I.Source.left l.input) [] l.bytes.items;
  later : g.I.Source.faults l.fn.input ≤ g.I.Source.faults l.input;
}

-- each turn but the last takes a byte
abbrev pub decreases-large : goal.decreases-large
decreases-large g l = l.most - vec_len l.bytes
