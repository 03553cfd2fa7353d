-- The steps that are kept give the MRSP.
use Rattle.std.proofs.Common.{◌≡◌, ℕ, ℤ, w32, to_z, of_z, subst}
use Rattle.std.proofs.lemmas.Int.{to_z-of_z}
use Rattle.sdm_speed.specs.Steps.{IsFallAfter}
use Rattle.sdm_speed.proofs.KeptLaws.{kept_mrsp, fall_in_range}
use Rattle.sdm_speed.proofs.FallStarts.{zone_of_next}
use Rattle.sdm_speed.proofs.profiles.Profile.next_fall_near.Goals as goal

pub returns-clause-value : goal.returns-clause-value
returns-clause-value c =
    let after_is : to_z w32 (of_z w32 c.args.after) ≡ c.args.after = to_z-of_z w32 c.args.after c.ranges.after in
    rw (← c.self.view_is) (subst (λ (profile : ℤ → ℕ). IsFallAfter profile c.args.after c.next_fall.result)
    (kept_mrsp c.self.inside c.self.invariant) (rw after_is at c.next_fall.ensures.value))

pub returns-clause-in_range : goal.returns-clause-in_range
returns-clause-in_range c =
    let after = to_z w32 (of_z w32 c.args.after) in
    fall_in_range c.self.inside c.self.invariant after _ (subst
    (λ (profile : ℤ → ℕ). IsFallAfter profile after c.next_fall.result)
    (kept_mrsp c.self.inside c.self.invariant) c.next_fall.ensures.value)

pub returns-clause-zone : goal.returns-clause-zone
returns-clause-zone c = zone_of_next c.args.self.now c.args.after c.next_fall.result (returns-clause-value c)
