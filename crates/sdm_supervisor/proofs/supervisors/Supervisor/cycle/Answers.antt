-- The row is that of the definitions, and the state is as it was until its commands are taken. Each promise is what a
-- law says of the row.
use Rattle.std.proofs.Common.{◌≡◌, Some, ◌∙◌, sym, subst}
use Rattle.sdm_rules.specs.Supervision.{Supervision, row_in, row_of, after_reading}
use Rattle.sdm_supervisor.specs.Sights.{seen_at}
use Rattle.sdm_row_laws.proofs.OpenTurns.{near_limits}
use Rattle.sdm_supervisor.proofs.CycleLaws.{commands_of, each_fall_of, order_of, safe_of, eoa_of, falls_of, gaps_of}
use Rattle.sdm_supervisor.proofs.CycleLaws.{ceiling_of, release_of}
use Rattle.sdm_supervisor.proofs.FindLaws.{state_of}
use Rattle.sdm_supervisor.proofs.supervisors.Supervisor.cycle.Goals as goal
use Rattle.sdm_supervisor.proofs.supervisors.Supervisor.cycle.Goals.{After-row-row}

module _ (c : After-row-row) where
  -- the state before the reading, from what the supervisor keeps inside
  abbrev state : Supervision
  state = state_of c.self.inside.braking c.self.inside.authority c.self.inside.profile c.self.inside.last_time
      c.self.inside.held

  -- it is the one that its view tells
  same : state ≡ c.args.self.now
  same = c.self.view_is

  -- the row is that of the definitions
  row : c.row-row.result ≡ row_of c.args.self.now c.args.reading.now
  row =
      subst (λ (s : Supervision). c.row-row.result ≡ row_of s c.args.reading.now) same
      (c.row-row.ensures ∙ (λ k. row_in (seen k).train_and_track state.commands (seen k).reading (seen k).situation))
    where
      seen : c.sight.result ≡ seen_at state c.args.reading.now
      seen = c.sight.ensures.seen ∙ (λ k. seen_at (sym same k) c.args.reading.now)

pub returns-clause-row : goal.returns-clause-row
returns-clause-row c = row ((goal.at.returns-clause-row c).After-row-row)

pub returns-clause-taken : goal.returns-clause-taken
unfolding after_reading row_in
returns-clause-taken c =
    let w = (goal.at.returns-clause-taken c).After-row-row in
    subst (λ (s : Supervision). record (state w) {
      last_time = Some c.time-time.result;
      commands = c.row-row.result.held;
    } ≡ after_reading s c.args.reading.now) (same w)
    (λ k. record (state w) {
      last_time = Some (c.time-time.ensures.value k);
      commands = ((row w ∙ (λ i. row_of (sym (same w) i) c.args.reading.now)) k).held;
    })

pub returns-clause-order : goal.returns-clause-order
returns-clause-order c = order_of c.args.self.now c.args.reading.now c.row-row.result
    (row ((goal.at.returns-clause-order c).After-row-row)) c.sight.ensures.accepted

pub returns-clause-safe : goal.returns-clause-safe
returns-clause-safe c = safe_of c.args.self.now c.args.reading.now c.row-row.result
    (row ((goal.at.returns-clause-safe c).After-row-row)) c.sight.ensures.accepted

pub returns-clause-gaps : goal.returns-clause-gaps
returns-clause-gaps c = gaps_of c.args.self.now c.args.reading.now c.row-row.result
    (row ((goal.at.returns-clause-gaps c).After-row-row))

pub returns-clause-ceiling : goal.returns-clause-ceiling
returns-clause-ceiling c = ceiling_of c.args.self.now c.args.reading.now c.row-row.result
    (row ((goal.at.returns-clause-ceiling c).After-row-row))

pub returns-clause-release : goal.returns-clause-release
returns-clause-release c = release_of c.args.self.now c.args.reading.now c.sight.ensures.accepted

pub returns-clause-commands : goal.returns-clause-commands
returns-clause-commands c = commands_of c.args.self.now c.args.reading.now c.row-row.result
    (row ((goal.at.returns-clause-commands c).After-row-row)) c.sight.ensures.accepted

pub returns-clause-eoa : goal.returns-clause-eoa
returns-clause-eoa c = eoa_of c.args.self.now c.args.reading.now c.row-row.result
    (row ((goal.at.returns-clause-eoa c).After-row-row)) c.sight.ensures.accepted

pub returns-clause-falls : goal.returns-clause-falls
returns-clause-falls c = falls_of c.args.self.now c.args.reading.now c.row-row.result
    (row ((goal.at.returns-clause-falls c).After-row-row)) c.sight.ensures.accepted

pub returns-clause-each_fall : goal.returns-clause-each_fall
returns-clause-each_fall c = each_fall_of c.args.self.now c.args.reading.now c.row-row.result
    (row ((goal.at.returns-clause-each_fall c).After-row-row)) c.sight.ensures.accepted

pub returns-clause-limits : goal.returns-clause-limits
returns-clause-limits c = near_limits c.args.self.now c.args.reading.now c.sight.ensures.accepted
