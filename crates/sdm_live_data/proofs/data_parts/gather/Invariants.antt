-- What came is gathered, and no record has begun, since the last line has no end.
use Rattle.std.proofs.Common.{length, ◌≤◌, ◌-◌}
use Rattle.sdm_formats.specs.Input.{most_bytes}
use Rattle.sdm_live.specs.Exchanges.{Along}
use Rattle.sdm_live_data.specs.Divisions.{HasNoRecords, IsLastLine}
use Rattle.sdm_live_data.specs.Waiting.{IsGathered}
use Rattle.sdm_live_data.proofs.data_parts.gather.Given as goal

abbrev pub invariant-reads : goal.invariant-reads
invariant-reads g l = record {
  short : length l.bytes.items ≤ most_bytes;
  later : g.P.Peer.faults l.fn.peer ≤ g.P.Peer.faults l.peer;
  last : IsLastLine l.bytes.items l.line_start;
  none : HasNoRecords l.bytes.items;
  so_far : Along (g.P.Peer.history l.fn.peer) (g.P.Peer.history l.peer) (IsGathered l.bytes.items);
}

-- each turn takes a byte
abbrev pub decreases-reads : goal.decreases-reads
decreases-reads g l = most_bytes - length l.bytes.items
