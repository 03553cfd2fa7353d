-- So far it is told of the bands before.
use Rattle.std.proofs.Common.{◌≡◌, ◌-◌}
use Rattle.sdm_certify.specs.WrittenLines.{are_same_slopes}
use Rattle.sdm_certify.proofs.written_map.are_same_slopes.Given as goal

abbrev pub invariant-loop-band : goal.invariant-loop-band
invariant-loop-band l = record { told : l.are_same ≡ are_same_slopes l.map (l.i - 1) l.band }
