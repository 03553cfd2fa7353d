-- Those so far have their zones.
use Rattle.std.proofs.Common.{All, take}
use Rattle.sdm_speed.specs.Held.{by_identity}
use Rattle.sdm_braking.specs.KeptFalls.{AreZonesOf, IsKeptZone}
use Rattle.sdm_braking.proofs.kept_falls.KeptFalls.take_restrictions.Given as goal

abbrev pub invariant-loop-i : goal.invariant-loop-i
invariant-loop-i l = record {
  zones : AreZonesOf (record l.profile { restrictions = by_identity (take l.i l.held) }) l.self;
  curves : All (IsKeptZone l.braking) l.self.zones;
}
