-- What is kept of the profile stays, and the rest is made for the new authority.
use Rattle.std.proofs.Common.{rules}
use Rattle.sdm_supervisor.proofs.supervisors.Supervisor.take_authority.Goals as goal

pub invariant_of-self : goal.invariant_of-self
invariant_of-self c = record {
  profile = c.self.invariant.profile;
  authority = search rules;
  kept = c.take_authority.ensures c.self.inside.profile c.self.inside.authority c.self.invariant.kept;
}
