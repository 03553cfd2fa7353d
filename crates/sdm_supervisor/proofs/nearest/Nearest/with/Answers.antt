-- The nearest limits, name by name: of two places the one with fewer grains is the lesser.
use Rattle.std.proofs.Common.{rules}
use Rattle.sdm_supervisor.proofs.nearest.Nearest.with.Goals as goal
use Rattle.sdm_supervisor.proofs.nearest.Nearest.with.Goals.{in-None-default, in-Some-None, in-Some-Some}
use Rattle.sdm_supervisor.proofs.nearest.Nearest.with.Goals.{then-grains, else-grains}
use Rattle.sdm_supervisor.proofs.nearest.Nearest.with.Goals.{then-grains-2, else-grains-2, then-grains-3, else-grains-3}

pub returns : goal.returns
returns c = record {
  ebi = elim c.match-nearest-2.branch [
    | in-None-default w ↦ search rules
    | in-Some-None w ↦ search rules
    | in-Some-Some w ↦ elim w.if-grains.branch [
      | then-grains w' ↦ search rules
      | else-grains w' ↦ search rules
    ]
  ];
  sbi = elim c.if-grains-2.branch [
    | then-grains-2 w ↦ search rules
    | else-grains-2 w ↦ search rules
  ];
  permitted = elim c.if-grains-3.branch [
    | then-grains-3 w ↦ search rules
    | else-grains-3 w ↦ search rules
  ];
}
