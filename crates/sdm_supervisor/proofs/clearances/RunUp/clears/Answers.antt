-- The curve's place at the speed, less the way, is compared with the front end.
use Rattle.std.proofs.Common.{◌≡◌, pos, int_lt, not, rules, ◌∙◌}
use Rattle.sdm_num.specs.Units.{place_of_mm}
use Rattle.sdm_rules.specs.declared.data.SlopeKind.TheVariants.{Expected}
use Rattle.sdm_rules.specs.Decelerations.{slopes_of}
use Rattle.sdm_supervisor.proofs.ClearLaws.{cleared_by_place}
use Rattle.sdm_supervisor.proofs.clearances.RunUp.clears.Goals as goal

pub returns-clause-value : goal.returns-clause-value
returns-clause-value c =
    let a = c.args in
    let asked : not c.is_passed_by.result ≡ not (int_lt c.less-latest.result.at a.self.now.front) = search rules in
    asked
    ∙ cleared_by_place (slopes_of Expected a.braking.now) a.self.now.front a.self.now.way a.self.now.speed
    (place_of_mm (pos a.mm)) c.less-latest.result.at (search rules)
