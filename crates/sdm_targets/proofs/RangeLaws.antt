-- A fall of a profile lies on the longest track, so the target at it does.
use Rattle.std.proofs.Common.{ℤ, pos, List, [], ◌∷◌, ◌++◌, All, ◌≤ℤ◌, arith}
use Rattle.std.proofs.lemmas.Int.{ints}
use Rattle.std.proofs.lemmas.List.Elements.{All-append, All-cons, All-nil}
use Rattle.sdm_rules.specs.declared.targets.Fall.{Fall}
use Rattle.sdm_rules.specs.declared.targets.Target.{Target}
use Rattle.sdm_rules.specs.declared.targets.TargetKind.TheVariants.{Mrsp}
use Rattle.sdm_rules.specs.Cells.{place_of_cell}
use Rattle.sdm_rules.specs.Ranges.{longest_track}
use Rattle.sdm_speed.specs.Zones.{IsFallInRange}
use Rattle.sdm_targets.specs.Lists.{IsTarget}

-- a cell from 0 on has its start at or past the origin
cell_not_before_0 : (c : ℤ) → pos 0 ≤ℤ c → pos 0 ≤ℤ place_of_cell c
cell_not_before_0 c h = omega (arith, ints)

-- a cell before the end of the longest track has its start before that end
cell_on_track : (c : ℤ) → c ≤ℤ pos longest_track → place_of_cell c ≤ℤ place_of_cell (pos longest_track)
cell_on_track c h = omega (arith, ints)

-- with the target at one more such fall all targets are in their ranges
pub one_more_on_track : (ts : List Target) (fall : Fall) → All IsTarget ts → IsFallInRange fall →
    All IsTarget (ts ++ record { kind = Mrsp; place = place_of_cell fall.cell; speed = fall.speed } ∷ [])
one_more_on_track ts fall each on =
    All-append IsTarget ts _ each (All-cons IsTarget _ [] (record {
      not_before = cell_not_before_0 fall.cell on.not_before;
      on_track = cell_on_track fall.cell (omega (arith, ints, on.on_track));
      speed = on.limited.greatest;
    }) (All-nil IsTarget))
