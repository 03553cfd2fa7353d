use Rattle.std.proofs.Common.{◌+◌, ◌<◌, ◌≤◌, length}
use Rattle.sdm_rules.specs.Certificates.{IsMarkInRange}
use Rattle.sdm_rules.specs.Slopes.{meaning_of}
use Rattle.sdm_certify.specs.Segments.{AreLater}
use Rattle.sdm_certify.proofs.Bands.{IsUpTo}
use Rattle.sdm_certify.proofs.made.marks_back.Given as goal

abbrev pub invariant-loop-band : goal.invariant-loop-band
invariant-loop-band l = record {
  up : IsUpTo (meaning_of l.map) l.fn.svl l.fn.speed l.band l.next l.marks.items;
  range : IsMarkInRange l.next;
  from : l.from < length l.map.starts;
  later : AreLater l.map.starts l.from l.next.place;
  few : length l.marks.items + l.from ≤ length l.map.starts + l.band;
}
