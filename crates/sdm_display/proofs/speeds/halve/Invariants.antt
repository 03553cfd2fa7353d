-- At the lesser speed the limit isn't passed, at the greater one it is, unless none is left above.
use Rattle.std.proofs.Common.{◌≡◌, ◌≤◌, ◌<◌, ◌+◌, ◌^◌, true, false}
use Rattle.sdm_num.specs.Units.{top_kmh}
use Rattle.sdm_display.proofs.speeds.halve.Given as goal

abbrev pub invariant-loop-turn : goal.invariant-loop-turn
invariant-loop-turn g l = record {
  apart : l.within < l.past;
  width : l.past ≤ l.within + 2 ^ l._turn;
  top : l.past ≤ top_kmh + 1;
  within : g.P.Passed.passed l.places l.limit l.within ≡ false;
  past : l.past ≤ top_kmh → g.P.Passed.passed l.places l.limit l.past ≡ true;
}
