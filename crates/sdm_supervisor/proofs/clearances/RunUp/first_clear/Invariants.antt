-- No millimetre before the first one that is left is clear, and the last one that is left is.
use Rattle.std.proofs.Common.{◌≡◌, ℕ, ◌<◌, ◌≤◌, ◌+◌, ◌^◌, true, false}
use Rattle.sdm_rules.specs.declared.data.SlopeKind.TheVariants.{Expected}
use Rattle.sdm_rules.specs.Decelerations.{slopes_of}
use Rattle.sdm_supervisor.specs.Clearances.{clears_mm}
use Rattle.sdm_supervisor.proofs.clearances.RunUp.first_clear.Given as goal

abbrev pub invariant-loop-turn : goal.invariant-loop-turn
invariant-loop-turn l = record {
  ordered : l.first ≤ l.clear;
  width : l.clear < l.first + 2 ^ l._turn;
  within : l.clear ≤ l.last_mm;
  clear : clears_mm (slopes_of Expected l.braking) l.self.front l.self.way l.self.speed l.clear ≡ true;
  before : (lesser : ℕ) → lesser < l.first →
      clears_mm (slopes_of Expected l.braking) l.self.front l.self.way l.self.speed lesser ≡ false;
}
