-- The first low has the lowest gradient of the cells under the train.
use Rattle.std.proofs.Common.{◌<◌, ◌≤◌, length, w64, sym, ap, ◌∙◌, rules}
use Rattle.std.proofs.lemmas.Int.{to_z-of_z}
use Rattle.std.proofs.lemmas.List.{get_or_default, get_or_past}
use Rattle.sdm_rules.specs.declared.data.Gradient.{Gradient}
use Rattle.sdm_track.specs.Sweeps.{level}
use Rattle.sdm_track.proofs.SweepLaws.{first_low}
use Rattle.sdm_track.proofs.sweep.Sweep.lowest.Goals as goal

pub returns-in-Some-clause-value : goal.returns-in-Some-clause-value
returns-in-Some-clause-value c =
    let known : c.index.result.now < length c.self.inside.entries.now = search rules in
    let is = c.in-Some.ensures.lookup.1 ∙ get_or_default _ c.index.result.now _ level known in
    rw (← c.self.view_is) (to_z-of_z w64 c.in-Some.entry.now.grad (search rules) ∙ ap (λ (e : Gradient). e.grad) is
    ∙ sym (first_low _ _ _ _ _ _ _ c.self.invariant _ c.index.ensures))

pub returns-in-None-clause-value : goal.returns-in-None-clause-value
returns-in-None-clause-value c =
    let past : length c.self.inside.entries.now ≤ c.index.result.now = search rules in
    rw (← c.self.view_is) (ap (λ (e : Gradient). e.grad) (sym (get_or_past _ _ level past))
    ∙ sym (first_low _ _ _ _ _ _ _ c.self.invariant _ c.index.ensures))
