-- No limit of a target that is no slower than the train is passed.
use Rattle.std.proofs.Common.{◌≡◌, ◌≤◌, ℕ, false, subst, arith}
use Rattle.std.proofs.lemmas.Bool.Decides.{nat_tests}
use Rattle.sdm_num.specs.Units.{notches}
use Rattle.sdm_rules.specs.declared.limits.LimitKind.{LimitKind}
use Rattle.sdm_rules.specs.declared.limits.LimitKind.TheVariants.{Ebi, Sbi, Warning, Permitted}
use Rattle.sdm_rules.specs.Limits.{computed, limits_of}
use Rattle.sdm_rules.specs.Margins.{margin_of}
use Rattle.sdm_rules.specs.Targets.{target_speed}
use Rattle.sdm_rules.specs.Triggers.{passes}
use Rattle.sdm_supervisor.proofs.FirstLaws.{unpassed}
use Rattle.sdm_supervisor.proofs.PassedLaws.{at_least, not_above}
use Rattle.sdm_supervisor.proofs.causes.ExplainingWalk.meet.Goals as goal

pub returns-then-le : goal.returns-then-le
returns-then-le c ts is =
    let seen = c.args.sight.now in
    let now = seen.situation in
    let e = c.args.asked.now.estimate in
    let t = c.args.kept.now.target in
    let within : e.speed ≤ target_speed t =
    subst (λ (n : ℕ). e.speed ≤ n) c.requires.kept.speeds.permitted (grind (arith, nat_tests)) in
    let none : (kind : LimitKind) → passes kind e.speed now.est now.front 0 t
    (limits_of computed seen.train_and_track e t) ≡ false =
    λ kind. not_above e.speed now.est now.front t kind (limits_of computed seen.train_and_track e t)
    (omega (arith, within, at_least t.kind (notches t.speed) (margin_of kind t.speed))) in
    let first = c.args.found.now in
    record {
      permitted = unpassed Permitted seen e ts t first.permitted (none Permitted) is.permitted;
      warning = unpassed Warning seen e ts t first.warning (none Warning) is.warning;
      sbi = unpassed Sbi seen e ts t first.sbi (none Sbi) is.sbi;
      ebi = unpassed Ebi seen e ts t first.ebi (none Ebi) is.ebi;
    }
