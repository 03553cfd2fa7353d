-- The map has as many identities as the list has restrictions.
use Rattle.std.proofs.Common.{arith}
use Rattle.sdm_speed.proofs.KeptLaws.{held_count}
use Rattle.sdm_speed.proofs.profiles.Profile.held_count.Goals as goal

pub returns : goal.returns
returns c =
    let held = c.self.inside.held.ok.0 in
    let count = held_count c.self.inside c.self.invariant c.args.self.now c.self.view_is in
    omega (arith, c.len.ensures)
