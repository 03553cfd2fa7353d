-- No limit of a target that is faster than the train is passed.
use Rattle.sdm_rules.specs.Limits.{computed, limits_of}
use Rattle.sdm_supervisor.proofs.PassedLaws.{any_unless, not_passed}
use Rattle.sdm_supervisor.proofs.shown.PassingWalk.meet_faster.Goals as goal

pub returns : goal.returns
returns c ts is =
    let seen = c.args._sight.now in
    let e = c.args._asked.now.estimate in
    let t = c.args._kept.now.target in
    any_unless _ ts t _ is (not_passed e.speed seen.situation.est seen.situation.front t c.args.self.now.kind
    (limits_of computed seen.train_and_track e t) c.requires.faster)
