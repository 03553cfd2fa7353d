-- The restriction has a zone, and the falls are found among all.
use Rattle.std.proofs.Common.{Some}
use Rattle.sdm_braking.specs.KeptFalls.{fall_by}
use Rattle.sdm_braking.proofs.ZoneLaws.{one_curve, restricted_zones}
use Rattle.sdm_braking.proofs.kept_falls.KeptFalls.restrict.Goals as goal

pub keep_falls-requires-clause-zones : goal.keep_falls-requires-clause-zones
keep_falls-requires-clause-zones c =
    restricted_zones c.args.braking.now c.args.profile.now c.args.r c.args.self.now c.keep_zone.new.self
    c.requires.before (rw c.fall_by.ensures.value at c.keep_zone.ensures.zone) c.keep_zone.ensures.statics
    c.keep_zone.ensures.room

pub keep_falls-requires-clause-curves : goal.keep_falls-requires-clause-curves
keep_falls-requires-clause-curves c =
    one_curve c.args.braking.now (Some c.args.r.id) (fall_by c.args.r) c.args.self.now.zones c.keep_zone.new.self.zones
    c.requires.curves (rw c.fall_by.ensures.value at c.keep_zone.ensures.zone)
