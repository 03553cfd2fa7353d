-- Where no emergency brake is commanded, no EBI is passed: not that of a target, and not that of the ceiling, so the
-- speed is at most the ceiling with its EBI margin.
use Rattle.std.proofs.Common.{◌≡◌, false}
use Rattle.std.proofs.lemmas.Bool.{or_parts, ltb-false}
use Rattle.sdm_num.specs.Readings.{OdometerReading, estimate_of}
use Rattle.sdm_rules.specs.declared.limits.LimitKind.TheVariants.{Ebi}
use Rattle.sdm_rules.specs.Commands.{commands_after, emergency_after}
use Rattle.sdm_rules.specs.Limits.{computed, limits_of}
use Rattle.sdm_rules.specs.Triggers.{above_ceiling, some_passed, triggers_of}
use Rattle.sdm_rules.specs.Supervision.{Supervision, situation_of, commands_in, row_in, row_of}
use Rattle.sdm_laws.specs.SupervisionLaws.{LawOfCeiling}

-- no EBI is passed, of the ceiling or of a target
pub no_ebi_passed : (s : Supervision) (r : OdometerReading) → (row_of s r).held.eb ≡ false →
    (above_ceiling Ebi (situation_of s r) ≡ false)
    × (some_passed Ebi (limits_of computed s.train_and_track (estimate_of r)) 0 (situation_of s r) ≡ false)
unfolding row_in commands_in commands_after emergency_after triggers_of situation_of
no_ebi_passed s r eb =
    let now = situation_of s r in
    let emer = (or_parts (triggers_of (limits_of computed s.train_and_track (estimate_of r)) 0 now).emer _ eb).0 in
    let one = (or_parts _ _ emer).0 in
    let two = (or_parts _ _ one).0 in
    let three = (or_parts _ _ two).0 in
    or_parts (above_ceiling Ebi now)
    (some_passed Ebi (limits_of computed s.train_and_track (estimate_of r)) 0 now) three

-- the speed is at most the ceiling with its EBI margin
pub within_ceiling : LawOfCeiling
unfolding row_in situation_of
within_ceiling s r eb = ltb-false _ _ (no_ebi_passed s r eb).0
