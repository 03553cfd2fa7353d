-- Each speed is found over what the supervisor sees at the reading.
use Rattle.sdm_rules.specs.declared.display.LimitName.TheVariants.{Permitted, Sbi, Ebi}
use Rattle.sdm_rules.specs.Display.{display_of}
use Rattle.sdm_row_laws.proofs.OpenTurns.{near_limits}
use Rattle.sdm_display.proofs.Seen.{seen_speed, seen_upwards}
use Rattle.sdm_display.proofs.displays.display_near.Goals as goal

pub greatest_near-requires-2-clause-upwards : goal.greatest_near-requires-2-clause-upwards
greatest_near-requires-2-clause-upwards c =
    seen_upwards _ _ _ Sbi c.sight-sight.ensures.seen (c.sight-sight.ensures.upwards Sbi)

pub greatest_near-requires-3-clause-upwards : goal.greatest_near-requires-3-clause-upwards
greatest_near-requires-3-clause-upwards c =
    seen_upwards _ _ _ Ebi c.sight-sight.ensures.seen (c.sight-sight.ensures.upwards Ebi)

pub returns-clause-value : goal.returns-clause-value
unfolding display_of
returns-clause-value c =
    let s = c.args.supervisor.now in
    let r = c.args.reading.now in
    let seen = c.sight-sight.ensures.seen in
    let permitted = seen_speed s r _ Permitted _ seen c.greatest_near.ensures.value in
    let sbi = seen_speed s r _ Sbi _ seen c.greatest_near-2.ensures.value in
    let ebi = seen_speed s r _ Ebi _ seen c.greatest_near-3.ensures.value in
    let shown = rw seen at c.shown.ensures in
    cc (c.time-time.ensures.value, permitted, sbi, ebi, c.release.ensures, shown)

pub returns-clause-limits : goal.returns-clause-limits
returns-clause-limits c =
    near_limits c.args.supervisor.now c.args.reading.now c.sight-sight.ensures.accepted
