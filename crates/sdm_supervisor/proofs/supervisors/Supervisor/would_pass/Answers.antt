-- What a driver is shown a limit by is near the exact limits: the state is open.
use Rattle.sdm_row_laws.proofs.OpenTurns.{near_limits}
use Rattle.sdm_supervisor.proofs.supervisors.Supervisor.would_pass.Goals as goal

pub returns-clause-limits : goal.returns-clause-limits
returns-clause-limits c = near_limits c.args.self.now c.args.reading.now c.sight.ensures.accepted
