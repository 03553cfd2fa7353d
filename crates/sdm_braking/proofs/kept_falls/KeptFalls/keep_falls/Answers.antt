-- The falls are found, and then the curves of others that hide each.
use Rattle.std.proofs.Common.{◌∙◌, map}
use Rattle.sdm_braking.specs.KeptFalls.{target_of}
use Rattle.sdm_speed.specs.Profiles.{mrsp_of}
use Rattle.sdm_braking.proofs.FootLaws.{falls_in_order, guides_in_order}
use Rattle.sdm_braking.proofs.ZoneLaws.{same_zones}
use Rattle.sdm_braking.proofs.kept_falls.KeptFalls.keep_falls.Goals as goal

pub hide_brakes-requires-clause-kept : goal.hide_brakes-requires-clause-kept
hide_brakes-requires-clause-kept c = c.fill.ensures.each c.args.braking.now c.requires.curves

pub hide_brakes-requires-clause-order : goal.hide_brakes-requires-clause-order
hide_brakes-requires-clause-order c =
    falls_in_order c.args.braking.now (mrsp_of c.args.profile.now) c.fill.new.self.list c.fill.ensures.falls
    (c.fill.ensures.each c.args.braking.now c.requires.curves)

pub hide_guides-requires-clause-kept : goal.hide_guides-requires-clause-kept
hide_guides-requires-clause-kept c =
    rw c.hide_brakes.ensures.list (c.fill.ensures.each c.args.braking.now c.requires.curves)

pub hide_guides-requires-clause-order : goal.hide_guides-requires-clause-order
hide_guides-requires-clause-order c =
    rw c.hide_brakes.ensures.list (guides_in_order (map target_of c.fill.new.self.list)
    (falls_in_order c.args.braking.now (mrsp_of c.args.profile.now) c.fill.new.self.list c.fill.ensures.falls
    (c.fill.ensures.each c.args.braking.now c.requires.curves)))

pub returns : goal.returns
returns c =
    let filled = c.fill.ensures in
    let brakes = c.hide_brakes.ensures in
    let guides = c.hide_guides.ensures in
    let list = guides.list ∙ brakes.list in
    record {
      falls = rw list filled.falls;
      each = rw list (filled.each c.args.braking.now c.requires.curves);
      few = rw list filled.few;
      zones = same_zones c.args.profile.now c.args.self.now c.hide_guides.new.self c.requires.zones
          (guides.zones ∙ brakes.zones ∙ filled.zones) (guides.statics ∙ brakes.statics ∙ filled.statics)
          (guides.room ∙ brakes.room ∙ filled.room);
      curves = rw (guides.zones, brakes.zones, filled.zones) c.requires.curves;
      hidden = record {
        brakes = rw (guides.list, guides.brakes) brakes.hidden;
        guides = guides.hidden;
      };
    }
