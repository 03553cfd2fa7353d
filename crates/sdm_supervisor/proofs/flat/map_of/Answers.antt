-- What was handed in is the flat map.
use Rattle.std.proofs.Common.{◌≡◌, pos, ◌*◌, ◌*ℤ◌, to_z, of_z, w64, ◌∙◌, arith, rules}
use Rattle.std.proofs.lemmas.Int.{ints, to_z-of_z}
use Rattle.sdm_supervisor.proofs.FlatCurves.{flat_map_from}
use Rattle.sdm_supervisor.proofs.flat.map_of.Goals as goal

pub returns-in-Ok : goal.returns-in-Ok
returns-in-Ok c =
    let decel : to_z w64 (of_z w64 c.from.result)
    ≡ pos c.args.decel = to_z-of_z w64 c.from.result (search (rules, ints)) ∙ c.from.ensures in
    let slope : to_z w64 (of_z w64 (pos 2_000_000_000 *ℤ pos c.args.decel))
    ≡ pos (2_000_000_000 * c.args.decel) =
    to_z-of_z w64 (pos (2_000_000_000 * c.args.decel)) (record { sfits = omega arith }) in
    flat_map_from c.in-Ok.map c.args.decel (rw (decel, slope) at c.in-Ok.ensures.kept)
