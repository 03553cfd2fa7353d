-- The cells, in order and each once, are the first cells of the stretches.
use Rattle.std.proofs.Common.{List, ℤ, pos, sym, subst}
use Rattle.std.proofs.lemmas.Result.{IfOk-weaker}
use Rattle.sdm_decel.specs.StretchCells.{AreStretches}
use Rattle.sdm_decel.proofs.Stretches.{gathered, near_cells, on_longest, stretches_are}
use Rattle.sdm_decel.proofs.cells.stretches.Goals as goal

pub push_areas-requires-clause-areas : goal.push_areas-requires-clause-areas
push_areas-requires-clause-areas c =
    let track = c.areas.ensures.in_range in
    on_longest _ _ _ track.longest track.areas c.areas.ensures.value

pub push_areas-requires-2-clause-areas : goal.push_areas-requires-2-clause-areas
push_areas-requires-2-clause-areas c =
    let track = c.no_special_areas.ensures.in_range in
    on_longest _ _ _ track.longest track.no_special c.no_special_areas.ensures.value

pub returns : goal.returns
returns c =
    let all_is = gathered _ _ _ _ _ _ _ _ _ c.new-cells.ensures.items c.in_ok-push.ensures.items
    c.in_ok-push_gradients.ensures (rw c.areas.ensures.value at c.in_ok-push_areas.ensures)
    (rw c.no_special_areas.ensures.value at c.in_ok-push_areas-2.ensures) in
    let order = c.put_in_order.ensures in
    let made = stretches_are c.args.track.now c.args.length_cm c.args.segments.now _ _ c.requires.segments
    c.areas.ensures.in_range c.requires.length all_is order.rises order.keeps order.adds_none order.few in
    let starts_is = rw c.deref.ensures.value at c.starts_of.ensures in
    IfOk-weaker c.starts_of.result _ _ (λ v is.
    subst (λ (xs : List ℤ). AreStretches c.args.track.now (pos c.args.length_cm) xs) (sym is) made) starts_is

pub starts_of-requires : goal.starts_of-requires
starts_of-requires c =
    let all_is = gathered _ _ _ _ _ _ _ _ _ c.new-cells.ensures.items c.in_ok-push.ensures.items
    c.in_ok-push_gradients.ensures (rw c.areas.ensures.value at c.in_ok-push_areas.ensures)
    (rw c.no_special_areas.ensures.value at c.in_ok-push_areas-2.ensures) in
    rw c.deref.ensures.value (near_cells _ _ _ _ _ c.requires.segments c.areas.ensures.in_range c.requires.length
    all_is c.put_in_order.ensures.adds_none)
