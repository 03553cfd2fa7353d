-- The speed is that of the definitions, of which the law is.
use Rattle.std.proofs.Common.{◌≡◌}
use Rattle.sdm_rules.specs.declared.data.SlopeKind.TheVariants.{Safe}
use Rattle.sdm_rules.specs.Release.{calculated}
use Rattle.sdm_laws.proofs.Rows.CalculatedRelease.{release_speed_is}
use Rattle.sdm_supervisor.proofs.CycleLaws.{is_open}
use Rattle.sdm_supervisor.proofs.supervisors.Supervisor.release_for.Goals as goal

pub returns-clause-stops : goal.returns-clause-stops
returns-clause-stops c =
    let d = c.args.self.now.train_and_track in
    let accepted = is_open c.args.self.now (rw (← c.self.view_is) c.calculated_release.ensures.accepted) in
    let found : c.calculated_release.result ≡ calculated d c.args.svl c.args.trip =
    rw (← c.self.view_is) c.calculated_release.ensures.value in
    rw found (release_speed_is d c.args.svl c.args.trip accepted.bands (accepted.usable Safe) c.requires.trip)
