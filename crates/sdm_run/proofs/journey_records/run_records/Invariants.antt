-- So far out took what is told of the turns before, which holds, and the records that are left give the rest of the
-- output.
use Rattle.std.proofs.Common.{◌≡◌, ◌+◌, ◌≤◌, [], false, length}
use Rattle.sdm_events.specs.Journey.{records_of}
use Rattle.sdm_run.specs.RunParts.{IsHeldBy, TellsEach, output_of_records}
use Rattle.sdm_run.proofs.HeldRecords.{turns_of}
use Rattle.sdm_run.proofs.OutputLeft.{IsLeftOf}
use Rattle.sdm_run.proofs.journey_records.run_records.Given as goal

abbrev pub invariant-records : goal.invariant-records
invariant-records g l = record {
  left : IsLeftOf (g.O.Sink.taken l.fn.out) (g.O.Sink.taken l.out)
      (output_of_records l.fn.teller 1 l.fn.supervisor (records_of l.bytes))
      (output_of_records l.teller (l.number + 1) l.supervisor l.records.left);
  held : IsHeldBy l.teller (turns_of l.teller (l.number + 1) l.supervisor l.records.left) →
      IsHeldBy l.fn.teller (turns_of l.fn.teller 1 l.fn.supervisor (records_of l.bytes));
  counted : l.number ≤ 100_000;
  later : g.O.Sink.faults l.fn.out ≤ g.O.Sink.faults l.out;
  due : l.is_flush_due ≡ false → (l.fn.is_flush_due ≡ false) × (l.out ≡ l.fn.out);
  untouched : l.fn.is_flush_due ≡ false → TellsEach l.fn.teller →
      (output_of_records l.fn.teller 1 l.fn.supervisor (records_of l.bytes)).text ≡ [] →
      (l.is_flush_due ≡ false) × (l.out ≡ l.fn.out) × (l.teller ≡ l.fn.teller);
}

-- each turn takes a record
abbrev pub decreases-records : goal.decreases-records
decreases-records g l = length l.records.left
