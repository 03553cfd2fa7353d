-- All curves further on are worked out, and none so far hides this one. A curve that is passed over is a step less to
-- the end of the row, and one that is worked out is a step more.
use Rattle.std.proofs.Common.{◌+◌, ◌<◌, ◌≡◌, ◌≤◌, ℕ, length}
use Rattle.sdm_hiding.specs.Hiding.{AreHiddenFrom}
use Rattle.sdm_hiding.proofs.HiddenLaws.{IsClearTo}
use Rattle.sdm_hiding.proofs.StepLaws.{Leads}
use Rattle.sdm_hiding.proofs.hidden.hide.Given as goal

abbrev pub invariant-further : goal.invariant-further
invariant-further g l = record {
  clear : IsClearTo (g.F.Feet.on l.feet) (g.F.Feet.feet l.feet) l.i l.k;
  inside : l.k ≤ l.count;
  steps_left : ℕ;
  lead : Leads l.steps l.count l.k steps_left;
  suffice : l.i + steps_left < l.passes;
}

abbrev pub decreases-further : goal.decreases-further
decreases-further g l = l.passes

abbrev pub invariant-each : goal.invariant-each
invariant-each g l = record {
  hidden : AreHiddenFrom (g.F.Feet.on l.feet) (g.F.Feet.feet l.feet) l.steps l.i;
  room : length l.steps ≡ length l.initial.steps;
  steps_left : ℕ;
  lead : Leads l.steps l.count l.i steps_left;
  suffice : l.i + steps_left ≤ l.passes;
}
