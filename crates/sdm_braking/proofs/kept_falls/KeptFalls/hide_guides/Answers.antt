-- The row is that of the kept falls, on the normal slopes.
use Rattle.std.proofs.Common.{◌≡◌, ◌∙◌, ◌++◌, ℕ, List, drop, length, map, subst, sym, take}
use Rattle.std.proofs.lemmas.List.{take_at}
use Rattle.sdm_rules.specs.declared.data.SlopeKind.TheVariants.{Normal}
use Rattle.sdm_rules.specs.Decelerations.{slopes_of}
use Rattle.sdm_hiding.specs.Hiding.{AreHiddenFrom}
use Rattle.sdm_braking.specs.FallFeet.{guide_foot}
use Rattle.sdm_braking.specs.KeptFalls.{kept_in, target_of}
use Rattle.sdm_braking.proofs.kept_falls.KeptFalls.hide_guides.Goals as goal

pub guides-requires-clause-kept : goal.guides-requires-clause-kept
guides-requires-clause-kept c =
    rw (c.deref.ensures.value, c.deref-2.ensures.value) (rw (← c.self.view_is) at c.requires.kept)

pub hide-requires-clause-order : goal.hide-requires-clause-order
hide-requires-clause-order c =
    rw (c.guides.ensures.falls, c.deref.ensures.value, c.deref-2.ensures.value)
    (rw (← c.self.view_is) at c.requires.order)

pub returns-clause-hidden : goal.returns-clause-hidden
returns-clause-hidden c on =
    let v = c.self.inside.guide_steps in
    let steps = c.hide.new.steps in
    let hidden = rw (c.guides.ensures.slopes, c.guides.ensures.falls, c.deref.ensures.value, c.deref-2.ensures.value)
    at c.hide.ensures.hidden in
    -- what was written over the steps is all that there is of them
    let back : take v.len (steps ++ drop (length steps) v.items) ≡ steps =
    take_at steps (drop (length steps) v.items) v.len (c.hide.ensures.room ∙ c.deref_mut.ensures.len) in
    subst (λ (s : List ℕ). AreHiddenFrom (slopes_of Normal c.args.braking.now)
    (map guide_foot (map target_of (kept_in c.self.inside.zones.items c.self.inside.list.items))) s 0) (sym back) hidden
