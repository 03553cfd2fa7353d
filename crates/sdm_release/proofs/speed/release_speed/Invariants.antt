use Rattle.std.proofs.Common.{◌≡◌, ◌≤◌, ◌<◌, ◌+◌, ◌^◌, true, false}
use Rattle.sdm_num.specs.Units.{top_kmh}
use Rattle.sdm_rules.specs.Limits.{computed}
use Rattle.sdm_rules.specs.Release.{fits}
use Rattle.sdm_rules.specs.Slopes.{IsUsable, meaning_of}
use Rattle.sdm_release.proofs.speed.release_speed.Given as goal

abbrev pub invariant-loop-turn : goal.invariant-loop-turn
invariant-loop-turn l = record {
  apart : l.slow < l.fast;
  width : l.fast ≤ l.slow + 2 ^ l._turn;
  top : l.fast ≤ top_kmh + 1;
  slow : fits computed (meaning_of l.safe) l.t_be l.ebd.place l.trip l.slow ≡ true;
  fast : l.fast ≤ top_kmh → fits computed (meaning_of l.safe) l.t_be l.ebd.place l.trip l.fast ≡ false;
  -- once a speed was tried
  usable : l.fast ≤ l.slow + top_kmh → IsUsable (meaning_of l.safe);
}
