-- The zone is that of the static profile where the search by halving ends, or one behind these.
use Rattle.std.proofs.Common.{drop, rules, sym, take}
use Rattle.std.proofs.lemmas.List.{take_rest}
use Rattle.std.proofs.lemmas.List.Sorted.{IsPartitionPoint-from_clause}
use Rattle.sdm_braking.specs.KeptFalls.{is_at}
use Rattle.sdm_braking.proofs.AnyLaws.{one_found}
use Rattle.sdm_braking.proofs.StaticLaws.{held_at, is_before, statics_parted}
use Rattle.sdm_braking.proofs.ZoneLaws.{zone_found}
use Rattle.sdm_braking.proofs.kept_falls.KeptFalls.zone_of.Goals as goal

pub unreachable-requires : goal.unreachable-requires
unreachable-requires c =
    let zs = c.self.inside.zones.items in
    let n = c.self.inside.statics in
    let h = c.self.invariant.6 in
    let fall = c.args.fall in
    let parts = IsPartitionPoint-from_clause (is_before n zs h fall.cell) (take n zs) c.parted-first.result
    (rw c.deref-3.ensures.value at c.parted-first.ensures.partitioned) (statics_parted n zs h fall.cell)
    (λ a r f called. search rules) in
    one_found (is_at fall) (drop n zs)
    (held_at n zs h fall c.parted-first.result parts
    (rw c.deref-4.ensures.value at (c.is_zone_at-3.ensures.other c.if-is_zone_at-3.false))
    (rw (← c.self.view_is) at c.requires))
    (sym (rw (c.in_default.is, c.deref-5.ensures.value, take_rest) at c.zone_at.ensures))

pub returns : goal.returns
returns c =
    let zs = c.self.inside.zones.items in
    let n = c.self.inside.statics in
    rw (← c.self.view_is) (zone_found c.args.fall zs n c.in-Some.held
    (sym (rw (c.in-Some.is, c.deref-5.ensures.value, take_rest) at c.zone_at.ensures)) c.self.invariant.6.known)
