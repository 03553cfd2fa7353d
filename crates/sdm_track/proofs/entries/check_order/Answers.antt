-- After the last entry there is none left that could start too early.
use Rattle.std.proofs.Common.{◌≡◌, ℕ, ℤ, ◌-◌, ◌≤◌, List, [], ◌∷◌, length, drop, None, refl, sym, ◌∙◌, arith}
use Rattle.std.proofs.Common.{length-drop}
use Rattle.sdm_rules.specs.declared.faults.Section.{Section}
use Rattle.sdm_rules.specs.Ranges.{order_fault}
use Rattle.sdm_track.proofs.entries.check_order.Goals as goal

-- of at most one entry none starts too early
order_fault-few : {E : Type 0} (list : Section) (start past : E → ℤ) (i : ℕ) (es : List E) → length es ≤ 1 →
    order_fault list start past i es ≡ None
order_fault-few list start past i [] few = refl
order_fault-few list start past i (e ∷ []) few = refl
order_fault-few list start past i (e ∷ next ∷ more) few = absurd (omega arith)

pub returns : goal.returns
returns g c =
    let left = drop (c.loop-i.i - 1) c.args.entries.now in
    let few : length left ≤ 1 = omega (arith, length-drop (c.loop-i.i - 1) c.args.entries.now) in
    sym (order_fault-few c.args.list g.E.Listed.start g.E.Listed.past c.loop-i.i left few) ∙ c.loop-i.invariant
