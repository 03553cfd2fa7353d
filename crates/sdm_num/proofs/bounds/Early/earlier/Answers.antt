use Rattle.std.proofs.Common.{subst, sym, ◌∙◌}
use Rattle.sdm_num.specs.Fractions.{lesser}
use Rattle.sdm_num.specs.Bounds.{Bound, IsEarlyFor}
use Rattle.sdm_num.proofs.Sides.{bound, early_only_lesser, IsEarlyFor_lesser, earlier_is, earlier_swap}
use Rattle.sdm_num.proofs.bounds.Early.earlier.Goals as goal

pub returns-then-grains-clause-value : goal.returns-then-grains-clause-value
returns-then-grains-clause-value c =
    let e = bound c.other.inside.at c.other.inside.slack in
    let d = bound c.self.inside.at c.self.inside.slack in
    rw (← c.self.view_is, ← c.other.view_is)
    (earlier_is e d _ _ c.distance_to.ensures c.slack_of_both.ensures ∙ earlier_swap e d)

pub returns-then-grains-clause-stands : goal.returns-then-grains-clause-stands
returns-then-grains-clause-stands c = λ x y h k. subst (λ (b : Bound). IsEarlyFor b (lesser x y))
    (sym (returns-then-grains-clause-value c)) (IsEarlyFor_lesser c.args.self c.args.other x y h k)

pub returns-else-grains-clause-value : goal.returns-else-grains-clause-value
returns-else-grains-clause-value c =
    let e = bound c.self.inside.at c.self.inside.slack in
    let d = bound c.other.inside.at c.other.inside.slack in
    rw (← c.self.view_is, ← c.other.view_is)
    (earlier_is e d _ _ c.distance_to-else-grains.ensures c.slack_of_both-else-grains.ensures)

pub returns-else-grains-clause-stands : goal.returns-else-grains-clause-stands
returns-else-grains-clause-stands c = λ x y h k. subst (λ (b : Bound). IsEarlyFor b (lesser x y))
    (sym (returns-else-grains-clause-value c)) (IsEarlyFor_lesser c.args.self c.args.other x y h k)

pub returns-then-grains-clause-only : goal.returns-then-grains-clause-only
returns-then-grains-clause-only c = λ z h. early_only_lesser c.args.self c.args.other z
    (subst (λ (b : Bound). IsEarlyFor b z) (returns-then-grains-clause-value c) h)

pub returns-else-grains-clause-only : goal.returns-else-grains-clause-only
returns-else-grains-clause-only c = λ z h. early_only_lesser c.args.self c.args.other z
    (subst (λ (b : Bound). IsEarlyFor b z) (returns-else-grains-clause-value c) h)
