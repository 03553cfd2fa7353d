-- Every target but the EOA has an EBD, and its EBI lies D_bec before the place of the EBD at V_bec.
use Rattle.std.proofs.Common.{◌≡◌, Some, not, true, ap, refl, ◌∙◌, rules}
use Rattle.std.specs.Option.{option_map_or}
use Rattle.sdm_num.specs.Fractions.{whole}
use Rattle.sdm_rules.specs.Curves.{stepped}
use Rattle.sdm_rules.specs.Decelerations.{slopes_of}
use Rattle.sdm_rules.specs.declared.data.SlopeKind.TheVariants.{Safe}
use Rattle.sdm_rules.specs.Limits.{computed, d_bec_for, v_bec_for}
use Rattle.sdm_rules.specs.Targets.{foot_speed_of}
use Rattle.sdm_rules.specs.Triggers.{is_past}
use Rattle.sdm_limits.proofs.Passed.{past_of}
use Rattle.sdm_limits.proofs.Places.{whole_less}
use Rattle.sdm_braking.specs.KeptCurves.{brake_kind}
use Rattle.sdm_braking.proofs.EbdLaws.{ebd_of, ebi_of}
use Rattle.sdm_braking.proofs.braking.Braking.is_before_ebi.Goals as goal

pub place_asked-place-requires-clause-made : goal.place_asked-place-requires-clause-made
place_asked-place-requires-clause-made c =
    let safe : brake_kind c.args.kept.now.target.kind ≡ Safe = search rules in
    rw c.safe-safe.ensures.slopes (ebd_of c.args.self.now c.args.kept.now safe c.requires.kept).made

pub returns-in-Mrsp : goal.returns-in-Mrsp
returns-in-Mrsp c =
    let d = c.args.self.now in
    let e = c.args.asked.now.estimate in
    let t = c.args.kept.now.target in
    let safe : brake_kind t.kind ≡ Safe = search rules in
    let ebd = ebd_of d c.args.kept.now safe c.requires.kept in
    let ebi = ebi_of computed d e t (Some (whole c.less.result.at)) safe
    (λ guide. ap Some (whole_less c.less.result.at
    (stepped (slopes_of Safe d) t.place (foot_speed_of t) (v_bec_for d e t)) (d_bec_for d e t) (search rules))) in
    ap not (past_of c.is_passed_by.ensures refl refl)
    ∙ (λ k. option_map_or (λ limit. not (is_past 0 c.args.front limit)) (ebi k) true)
