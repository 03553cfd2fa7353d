-- The map was read from the first line on.
use Rattle.sdm_certify.specs.Written.{map_view}
use Rattle.sdm_certify.proofs.checker.Checker.begin.Goals as goal

pub returns-clause-begun : goal.returns-clause-begun
returns-clause-begun c = record {
  written = map_view c.in_ok-written.written;
  read = rw c.of-left.ensures at c.in_ok-written.ensures.map;
  made = c.in_ok-made.ensures.made;
}
