-- Those before the cell come first, so the one after them is at the cell, or none is.
use Rattle.std.proofs.Common.{◌≡◌, ◌<◌, ◌-ℤ◌, pos, w32, w64, to_z, of_z, length, ap, arith, rules, sym, subst, ◌∙◌}
use Rattle.std.proofs.lemmas.Int.{ints, to_z-of_z}
use Rattle.sdm_braking.specs.KeptFalls.{IsKeptFall, KeptFallData, KeptFallsData, first_cell, kept_at}
use Rattle.sdm_braking.proofs.KeptFallLaws.{found, missing}
use Rattle.sdm_braking.proofs.PlaceLaws.{read_is, target_is}
use Rattle.sdm_braking.proofs.kept_falls.KeptFalls.at.Goals as goal

pub returns-then-len-i-clause-falls : goal.returns-then-len-i-clause-falls
returns-then-len-i-clause-falls c p h past =
    let cell_is : to_z w32 (of_z w32 c.args.cell) ≡ c.args.cell = to_z-of_z w32 c.args.cell c.ranges.cell in
    let wide : to_z w64 (of_z w64 c.from.result) ≡ c.args.cell = omega (arith, ints, c.from.ensures, cell_is) in
    let before : to_z w64 (of_z w64 (c.args.cell -ℤ pos 1)) ≡ c.args.cell -ℤ pos 1 = omega (arith, ints) in
    let parts = (rw (wide, before) at c.reached-i.ensures.parted) p first_cell h in
    missing p c.args.self.now.list c.reached-i.result c.args.cell h past parts
    (λ k known is here. omega (arith, known, c.if-len-i.true, c.len.ensures))

pub returns-then-fall-cell-clause-falls : goal.returns-then-fall-cell-clause-falls
returns-then-fall-cell-clause-falls c p h past =
    let cell_is : to_z w32 (of_z w32 c.args.cell) ≡ c.args.cell = to_z-of_z w32 c.args.cell c.ranges.cell in
    let wide : to_z w64 (of_z w64 c.from.result) ≡ c.args.cell = omega (arith, ints, c.from.ensures, cell_is) in
    let before : to_z w64 (of_z w64 (c.args.cell -ℤ pos 1)) ≡ c.args.cell -ℤ pos 1 = omega (arith, ints) in
    let parts = (rw (wide, before) at c.reached-i.ensures.parted) p first_cell h in
    let list_is = ap (λ (v : KeptFallsData). v.list) c.self.view_is in
    missing p c.args.self.now.list c.reached-i.result c.args.cell h past parts
    (λ k known is here.
    let same = read_is c.self.inside.zones.items c.self.inside.list.items c.args.self.now.list c.reached-i.result
    c.index.result.now list_is known c.index.ensures k ∙ sym is in
    c.if-fall-cell.true (ap (λ (x : KeptFallData). of_z w32 x.fall.cell) same ∙ ap (of_z w32) here))

pub returns-clause-each : goal.returns-clause-each
returns-clause-each c d each =
    let zones = c.self.inside.zones.items in
    let list_is = ap (λ (v : KeptFallsData). v.list) c.self.view_is in
    let k = kept_at zones c.index.result.now in
    let known : c.reached-i.result < length c.args.self.now.list = omega (arith, c.if-len-i.false, c.len.ensures) in
    subst (IsKeptFall d) (sym (target_is zones c.self.inside.list.items c.args.self.now.list c.reached-i.result
    c.index.result.now list_is known c.index.ensures c.self.invariant.0 c.index-2.result.now k c.index-2.ensures))
    (each c.reached-i.result k known)

pub returns-clause-falls : goal.returns-clause-falls
returns-clause-falls c p h past =
    let zones = c.self.inside.zones.items in
    let list_is = ap (λ (v : KeptFallsData). v.list) c.self.view_is in
    let e = c.index.result.now in
    let k = kept_at zones e in
    let known : c.reached-i.result < length c.args.self.now.list = omega (arith, c.if-len-i.false, c.len.ensures) in
    let fits : to_z w32 (of_z w32 e.fall.cell) ≡ e.fall.cell = to_z-of_z w32 e.fall.cell (search rules) in
    let cell_is : to_z w32 (of_z w32 c.args.cell) ≡ c.args.cell = to_z-of_z w32 c.args.cell c.ranges.cell in
    found p c.args.self.now.list c.reached-i.result c.args.cell h k known
    (read_is zones c.self.inside.list.items c.args.self.now.list c.reached-i.result e list_is known c.index.ensures k)
    (sym fits ∙ ap (to_z w32) c.if-fall-cell.false ∙ cell_is)
