-- One zone more lowers the speeds.
use Rattle.std.proofs.Common.{ap, ◌∙◌, sym, arith}
use Rattle.std.proofs.lemmas.List.{take_more}
use Rattle.sdm_rules.specs.Profile.{capped}
use Rattle.sdm_speed.proofs.ZoneLaws.{lowest_limit-push}
use Rattle.sdm_speed.proofs.profiles.steps_of.Goals as goal

pub loop-zone-preserved : goal.loop-zone-preserved
loop-zone-preserved c =
    let inv = c.loop-zone.invariant in
    let zones = c.args.zones.now in
    let zone = c.zone-item.result in
    record {
      speeds = λ cell.
          c.lower.ensures.speeds cell ∙ ap (capped cell zone) (inv.speeds cell)
          ∙ (rw (take_more zones c.loop-zone.zone-index zone c.loop-zone-test.true, ← c.zone-item.is)
          (sym (lowest_limit-push c.args.top cell _ zone)));
      few = omega (arith, c.lower.ensures.few, inv.few);
      room = c.lower.ensures.room ∙ inv.room;
    }
