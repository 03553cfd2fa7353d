-- What passes a limit at the speed is the ceiling, the release speed, or one of the targets that were asked: so one of all.
use Rattle.std.proofs.Common.{◌&&◌, sym, ◌∙◌}
use Rattle.sdm_num.specs.Readings.{estimate_of}
use Rattle.sdm_rules.specs.Display.{counts_release, situation_at}
use Rattle.sdm_rules.specs.Triggers.{above_ceiling, above_release}
use Rattle.sdm_supervisor.specs.Sights.{some_target_passed}
use Rattle.sdm_supervisor.proofs.EnoughLaws.{passed_by_targets, passed_of_all}
use Rattle.sdm_supervisor.proofs.sight.Sight.would_pass.Goals as goal

pub returns : goal.returns
returns c =
    let seen = c.args.self.now in
    let passed = passed_of_all seen c.asked-asked.result.estimate c.kind_of-kind.result c.walk_few.new.found
    c.walk_few.ensures in
    let kind = c.kind_of-kind.ensures in
    let v = c.of_kmh-v.ensures in
    let reading = c.estimate.ensures ∙ (λ i. estimate_of ((c.self.view_is i).reading)) in
    let estimate = c.asked-asked.ensures.estimate ∙ c.with_speed.ensures
    ∙ (λ i. record (reading i) { speed = v i }) in
    passed_by_targets seen.train_and_track seen.reading seen.situation c.args.name c.args.kmh c.walk_few.new.found
    ((λ i. above_ceiling (sym kind i) (situation_at (sym v i) seen.situation)) ∙ sym c.is_above_ceiling.ensures
    ∙ c.if-is_above_ceiling.false)
    ((λ i. counts_release c.args.name && above_release (situation_at (sym v i) seen.situation))
    ∙ sym c.is_above_release.ensures ∙ c.if-is_above_release.false)
    (passed ∙ (λ i. some_target_passed (kind i) seen (estimate i) seen.situation.targets))
