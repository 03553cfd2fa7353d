-- The walk goes further on, and wherever it began, it has come on with no more asked.
use Rattle.std.proofs.Common.{◌-◌, ◌≤◌, ℕ, List}
use Rattle.sdm_hiding.specs.Asking.{AreFeet, IsWalkedTo}
use Rattle.sdm_hiding.proofs.asking.Asking.next.Given as goal

abbrev pub invariant-row : goal.invariant-row
invariant-row g l =
    (l.initial.self.at ≤ l.self.at) × ((margin bec : ℕ) (asked : List ℕ) → AreFeet margin (g.F.Feet.feet l.feet) → l.v ≤ bec →
    IsWalkedTo (g.F.Feet.on l.feet) (g.F.Feet.feet l.feet) margin l.v bec asked l.initial.self →
    IsWalkedTo (g.F.Feet.on l.feet) (g.F.Feet.feet l.feet) margin l.v bec asked l.self)

abbrev pub decreases-row : goal.decreases-row
decreases-row g l = l.count - l.self.at
