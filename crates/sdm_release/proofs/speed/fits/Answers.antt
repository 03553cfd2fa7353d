use Rattle.std.proofs.Common.{◌≡◌, int_lt, not, rules, ◌∙◌}
use Rattle.sdm_rules.specs.Slopes.{meaning_of}
use Rattle.sdm_release.proofs.Halving.{fits_by_place}
use Rattle.sdm_release.proofs.speed.fits.Goals as goal

pub returns-clause-value : goal.returns-clause-value
returns-clause-value c =
    let a = c.args in
    let asked : not c.is_passed_by.result ≡ not (int_lt c.less-latest.result.at a.trip) = search rules in
    asked
    ∙ fits_by_place (meaning_of a.safe.now) a.t_be a.ebd.now.place a.trip a.kmh c.less-latest.result.at (search rules)
