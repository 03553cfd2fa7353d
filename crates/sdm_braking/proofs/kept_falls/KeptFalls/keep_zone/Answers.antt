-- The zone stands behind the others, with its target.
use Rattle.std.proofs.Common.{◌≡◌, ◌∙◌, refl, ap}
use Rattle.sdm_braking.specs.declared.falls_ahead.KeptZone.{KeptZone}
use Rattle.sdm_braking.specs.KeptFalls.{KeptFallsData}
use Rattle.sdm_braking.proofs.kept_falls.KeptFalls.keep_zone.Goals as goal

pub returns-clause-zone : goal.returns-clause-zone
returns-clause-zone c =
    let zs = c.self.inside.zones.items in
    let z : KeptZone = record { id = c.args.id; fall = c.args.fall; kept = c.keep-kept.result } in
    let same : zs ≡ c.args.self.now.zones =
    ap (λ (v : KeptFallsData). v.zones) c.self.view_is ∙ c.clear.ensures.zones in
    rw (← same) (record {
      zone = z;
      is = c.push_reserved.ensures.items;
      id = refl;
      fall = refl;
      kept = record { at = c.keep-kept.ensures.target ∙ c.target_at.ensures.value; kept = c.keep-kept.ensures.kept };
    })
