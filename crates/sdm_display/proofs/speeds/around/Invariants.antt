-- Downwards the limit is passed at the speed that is reached; upwards it isn't.
use Rattle.std.proofs.Common.{◌≡◌, ◌≤◌, true, false}
use Rattle.sdm_num.specs.Units.{top_kmh}
use Rattle.sdm_display.proofs.speeds.around.Given as goal

abbrev pub invariant-down : goal.invariant-down
invariant-down g l = record {
  top : l.past ≤ top_kmh;
  past : g.P.Passed.passed l.places l.limit l.past ≡ true;
}

abbrev pub invariant-up : goal.invariant-up
invariant-up g l = record {
  top : l.within ≤ top_kmh;
  within : g.P.Passed.passed l.places l.limit l.within ≡ false;
}
