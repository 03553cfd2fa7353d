-- What is kept of the authority stays, and the falls are those of the profile with the restrictions taken over.
use Rattle.std.proofs.Common.{◌≡◌, ap, ◌∙◌, rules, subst, sym}
use Rattle.std.specs.FinMap as finite
use Rattle.sdm_rules.specs.Supervision.{Supervision}
use Rattle.sdm_speed.specs.Profiles.{ProfileData}
use Rattle.sdm_braking.specs.KeptFalls.{AreZonesOf}
use Rattle.sdm_supervisor.proofs.supervisors.Supervisor.take_over.Goals as goal

pub take_restrictions-requires-2-clause-before : goal.take_restrictions-requires-2-clause-before
take_restrictions-requires-2-clause-before c =
    let profile = c.self.inside.profile in
    let fresh : profile.restrictions ≡ finite.empty
    = ap (λ (s : Supervision). s.restrictions) c.self.view_is ∙ c.requires.fresh in
    let bare : profile ≡ record profile { restrictions = finite.empty } = λ k. record profile { restrictions = fresh k } in
    let before : profile ≡ record c.take_restrictions.new.self { restrictions = finite.empty }
    = bare ∙ sym (ap (λ (p : ProfileData). record p { restrictions = finite.empty }) c.take_restrictions.ensures.taken) in
    subst (λ (p : ProfileData). AreZonesOf p c.self.inside.kept.falls) before c.self.invariant.kept.falls.zones

pub take_restrictions-requires-2-clause-curves : goal.take_restrictions-requires-2-clause-curves
take_restrictions-requires-2-clause-curves c = c.self.invariant.kept.falls.curves

pub invariant_of-self : goal.invariant_of-self
invariant_of-self c = record {
  profile = search rules;
  authority = c.self.invariant.authority;
  kept = c.take_restrictions-2.ensures c.self.inside.profile c.self.inside.authority c.self.invariant.kept;
}
