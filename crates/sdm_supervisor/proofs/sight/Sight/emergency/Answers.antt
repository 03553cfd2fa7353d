-- Four causes in turn.
use Rattle.std.proofs.Common.{◌≡◌, not, ◌&&◌, is_some, ◌∙◌}
use Rattle.std.specs.Option.{option_or}
use Rattle.sdm_causes.specs.declared.causes.Cause.TheVariants.{EndOfAuthority, NoServiceBrake}
use Rattle.sdm_causes.specs.Causes.{where_so}
use Rattle.sdm_supervisor.proofs.FirstLaws.{in_turn}
use Rattle.sdm_supervisor.proofs.sight.Sight.emergency.Goals as goal

pub returns : goal.returns
returns c =
    let now = c.args.self.now.situation in
    let end : c.where_so.result ≡ where_so now.past_end EndOfAuthority =
    c.where_so.ensures ∙ (λ k. where_so (c.self.view_is k).situation.past_end EndOfAuthority) in
    let unbraked : c.where_so-2.result ≡ where_so (is_some c.args.sbi && not now.in_use) NoServiceBrake =
    c.where_so-2.ensures
    ∙ (λ k. where_so (c.is_some.ensures k && not (c.self.view_is k).situation.in_use) NoServiceBrake) in
    c.or-3.ensures
    ∙ (λ k. option_or ((c.or-2.ensures ∙ (λ j. option_or (c.or.ensures j) c.by_release_speed.result)) k)
    c.where_so-2.result)
    ∙ (λ k. option_or (option_or (option_or c.args.ebi (end k)) (c.by_release_speed.ensures k)) (unbraked k))
    ∙ in_turn c.args.ebi _ _ _
