-- What is kept of the authority stays, and the falls are those of the changed profile.
use Rattle.std.proofs.Common.{rules, None, ◌≡◌, true, false, Bool, if◌then◌else◌, Some, refl}
use Rattle.sdm_supervisor.proofs.supervisors.Supervisor.revoke.Goals as goal

held_if : {F : Type 0} (b : Bool) (fault : F) → (if b then None else Some fault) ≡ None → b ≡ true
held_if true fault none = refl
held_if false fault none = absurd cc

pub revoke-requires-2-clause-before : goal.revoke-requires-2-clause-before
revoke-requires-2-clause-before c =
    let profile = c.self.inside.profile in
    let said = c.in_ok-revoke.ensures in
    record {
      old = profile;
      zones = c.self.invariant.kept.falls.zones;
      held = held_if _ _ said.accepted;
      is = said.removed;
    }

pub revoke-requires-2-clause-curves : goal.revoke-requires-2-clause-curves
revoke-requires-2-clause-curves c = c.self.invariant.kept.falls.curves

pub invariant_of-self-2 : goal.invariant_of-self-2
invariant_of-self-2 c = record {
  profile = search rules;
  authority = c.self.invariant.authority;
  kept = c.revoke-2.ensures c.self.inside.profile c.self.inside.authority c.self.invariant.kept;
}
