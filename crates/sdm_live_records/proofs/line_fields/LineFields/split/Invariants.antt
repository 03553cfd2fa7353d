-- The bytes so far are divided, and what is left leads to what the whole line leads to.
use Rattle.std.proofs.Common.{◌≡◌, ◌≤◌, drop, length}
use Rattle.sdm_live_records.specs.Fields.{nothing_split, split_bytes, split_of}
use Rattle.sdm_live_records.proofs.line_fields.LineFields.split.Given as goal

abbrev pub invariant-loop-byte : goal.invariant-loop-byte
invariant-loop-byte l = record {
  bytes : length l.self.bytes ≤ l.byte-index;
  ends : length l.self.ends ≤ l.byte-index;
  leads : split_bytes (split_of l.self l.within) (drop l.byte-index l.bytes) ≡ split_bytes nothing_split l.bytes;
}
