-- What is kept of the authority stays, and the falls are those of the changed profile.
use Rattle.std.proofs.Common.{rules}
use Rattle.sdm_speed.proofs.RestrictLaws.{accepted}
use Rattle.sdm_supervisor.proofs.supervisors.Supervisor.restrict.Goals as goal

pub restrict-requires-clause-before : goal.restrict-requires-clause-before
restrict-requires-clause-before c =
    let profile = c.self.inside.profile in
    let said = c.in_ok-set.ensures in
    let ok = accepted profile.track_cm profile.restrictions c.args.r said.accepted in
    record {
      old = profile;
      zones = c.self.invariant.kept.falls.zones;
      new = ok.new;
      few = ok.room;
      is = said.added;
    }

pub restrict-requires-clause-curves : goal.restrict-requires-clause-curves
restrict-requires-clause-curves c = c.self.invariant.kept.falls.curves

pub invariant_of-self-2 : goal.invariant_of-self-2
invariant_of-self-2 c = record {
  profile = search rules;
  authority = c.self.invariant.authority;
  kept = c.restrict.ensures c.self.inside.profile c.self.inside.authority c.self.invariant.kept;
}
