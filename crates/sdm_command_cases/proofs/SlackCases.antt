-- The most that rounding may cost a limit is what eight bands cost, and no more.
use Rattle.std.proofs.Common.{◌≡◌, refl}
use Rattle.sdm_rules.specs.Curves.{most_slack, slack_after}
use Rattle.sdm_laws.specs.CurveLaws.{slack_of}

-- (16^8 - 1) / 15 grains, where each of eight bands may have slopes of 1 to 16
most_is_of_eight_bands : most_slack ≡ slack_after 16 8 0
most_is_of_eight_bands = refl

-- which is 0.53 mm
most_in_grains : most_slack ≡ 286_331_153
most_in_grains = refl

most_of_a_map : slack_of 8 ≡ most_slack
most_of_a_map = refl
