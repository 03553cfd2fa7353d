-- A reading that tells of a new moment is judged, or its time goes back.
use Rattle.std.proofs.Common.{◌∙◌, subst}
use Rattle.sdm_num.specs.Readings.{OdometerReading}
use Rattle.sdm_rules.specs.declared.records.Event.TheVariants as record_kinds
use Rattle.sdm_ride.specs.Happenings.{Record}
use Rattle.sdm_onboard.specs.declared.messages.Message.TheVariants as messages
use Rattle.sdm_onboard.specs.Messages.{Follows}
use Rattle.sdm_onboard.proofs.Taking.{braked, not_again, reading}
use Rattle.sdm_onboard.proofs.onboard.Onboard.take_odometry.Goals as goal

pub returns-in-Ok-clause-takes : goal.returns-in-Ok-clause-takes
returns-in-Ok-clause-takes c =
    let told = c.in-Some.ensures in
    reading c.args.self.now c.judge.new.self c.args.odometry.now told.0
    (λ again. not_again c.last_time.result c.args.odometry.now.time c.eq.result c.eq.ensures c.if-eq.false
    (c.last_time.ensures ∙ again))
    (subst (λ (r : OdometerReading). Follows c.args.self.now (Record (record_kinds.Read r)) c.judge.new.self) told.1
    c.judge.ensures.follows)

pub returns-in-Err-clause-takes : goal.returns-in-Err-clause-takes
returns-in-Err-clause-takes c =
    let told = c.in-Some.ensures in
    let now = c.brake-in-Err.ensures in
    braked c.args.self.now c.judge.new.self c.brake-in-Err.new.self (messages.Odometry c.args.odometry.now) now.supervisor
    now.braked.emergency now.braked.service
    (reading c.args.self.now c.judge.new.self c.args.odometry.now told.0
    (λ again. not_again c.last_time.result c.args.odometry.now.time c.eq.result c.eq.ensures c.if-eq.false
    (c.last_time.ensures ∙ again))
    (subst (λ (r : OdometerReading). Follows c.args.self.now (Record (record_kinds.Read r)) c.judge.new.self) told.1
    c.judge.ensures.follows))
