-- The segment is among those that halving leaves; the one after these begins past the level. They are at most 12 times a
-- power of 2, and no fewer than 6 times but for 5: at power 1, from 1 to 12.
use Rattle.std.proofs.Common.{◌+◌, ◌*◌, ◌/◌, ◌^◌, ◌<◌, ◌≤◌, length}
use Rattle.sdm_curve.specs.Integrals.{sum_of}
use Rattle.sdm_curve.proofs.levels.last_possible_of_many.Given as goal

abbrev pub invariant-halves : goal.invariant-halves
invariant-halves l = record {
  some : l.low < l.past;
  known : l.past ≤ length l.map.starts;
  begun : sum_of l.map l.band l.low / 2 ^ 64 ≤ l.key;
  next_past : l.past < length l.map.starts → l.key < sum_of l.map l.band l.past / 2 ^ 64;
  most : l.past ≤ l.low + 12 * 2 ^ l._turn;
  least : l.low + 6 * 2 ^ l._turn ≤ l.past + 5;
}
