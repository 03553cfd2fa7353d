-- So far the bytes kept are those that the input lost, each of them took a free place, and its count has not fallen.
use Rattle.std.proofs.Common.{◌≡◌, ◌+◌, ◌≤◌, length}
use Rattle.sdm_io.specs.Told.{KeepsRead}
use Rattle.sdm_io.proofs.reading.read_blocks.Given as goal

abbrev pub invariant-chunks : goal.invariant-chunks
invariant-chunks g l = record {
  read : KeepsRead (g.I.Source.left l.fn.input) (g.I.Source.left l.input) l.fn.bytes.items l.bytes.items;
  places : length l.bytes.items + l.free ≡ length l.fn.bytes.items + l.fn.free;
  later : g.I.Source.faults l.fn.input ≤ g.I.Source.faults l.input;
}

-- each turn but the last takes a byte
abbrev pub decreases-chunks : goal.decreases-chunks
decreases-chunks g l = l.free
