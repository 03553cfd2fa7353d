-- The restriction's zone goes, and the falls are found among those that are left.
use Rattle.sdm_braking.proofs.ZoneLaws.{curves_left, revoked_zones, zone_of_held}
use Rattle.sdm_braking.proofs.kept_falls.KeptFalls.revoke.Goals as goal

pub remove-requires : goal.remove-requires
remove-requires c = zone_of_held c.args.profile.now c.args.id c.args.self.now c.requires.before

pub keep_falls-requires-clause-zones : goal.keep_falls-requires-clause-zones
keep_falls-requires-clause-zones c = revoked_zones c.args.profile.now c.args.id c.args.self.now c.remove.new.self
    c.requires.before c.remove.ensures.zone c.remove.ensures.statics c.remove.ensures.room

pub keep_falls-requires-clause-curves : goal.keep_falls-requires-clause-curves
keep_falls-requires-clause-curves c =
    curves_left c.args.braking.now c.args.id c.args.self.now.zones c.remove.new.self.zones c.requires.curves
    c.remove.ensures.zone
