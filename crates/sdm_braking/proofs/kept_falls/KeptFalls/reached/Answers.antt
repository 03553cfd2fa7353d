-- The places come in the order of what is kept.
use Rattle.std.proofs.Common.{rules}
use Rattle.sdm_braking.proofs.PlaceLaws.{falls_placed, parted_at, parted_kept}
use Rattle.sdm_braking.proofs.kept_falls.KeptFalls.reached.Goals as goal

pub returns-clause-parted : goal.returns-clause-parted
returns-clause-parted c p after h =
    let zones = c.self.inside.zones.items in
    let list = c.self.inside.list.items in
    let parts = parted_at p after c.args.last list c.parted.result
    (falls_placed zones p after list (rw (← c.self.view_is) at h))
    (rw c.deref.ensures.value at c.parted.ensures.partitioned) (λ a r f called. search rules) in
    rw (← c.self.view_is) (parted_kept zones c.args.last list c.parted.result parts)
