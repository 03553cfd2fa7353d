-- The causes of the targets that were found first, of the ceiling and of the rest, and by them how the commands stand.
use Rattle.std.proofs.Common.{◌≡◌, Option, ◌||◌, is_some, ap, refl, sym, subst, ◌∙◌}
use Rattle.std.specs.Option.{option_or}
use Rattle.sdm_num.specs.Readings.{Estimate, estimate_of}
use Rattle.sdm_rules.specs.declared.limits.LimitKind.{LimitKind}
use Rattle.sdm_rules.specs.declared.limits.LimitKind.TheVariants.{Ebi, Sbi, Warning, Permitted}
use Rattle.sdm_rules.specs.Limits.{computed, limits_of}
use Rattle.sdm_causes.specs.declared.causes.PassedTarget.{PassedTarget}
use Rattle.sdm_causes.specs.declared.causes.Until.TheVariants.{PermittedSpeed}
use Rattle.sdm_causes.specs.Causes.{by_limit, causes_in, emer_by, emergency_by, emergency_until, over_by, serv_by}
use Rattle.sdm_causes.specs.Causes.{standing, told_first, warn_by}
use Rattle.sdm_supervisor.specs.Passed.{first_among}
use Rattle.sdm_supervisor.specs.Sights.{Seen}
use Rattle.sdm_supervisor.proofs.FirstLaws.{both_in_turn, first_of_none}
use Rattle.sdm_supervisor.proofs.sight.Sight.causes.Goals as goal

pub walk-requires-clause-first : goal.walk-requires-clause-first
walk-requires-clause-first c =
    let seen = c.args.self.now in
    let e = c.asked-asked.result.estimate in
    record {
      permitted = first_of_none Permitted seen e;
      warning = first_of_none Warning seen e;
      sbi = first_of_none Sbi seen e;
      ebi = first_of_none Ebi seen e;
    }

-- what is found by the reading's own estimate is of what is seen
found_first : (seen : Seen) (e : Estimate) (kind : LimitKind) (found : Option PassedTarget) →
    e ≡ estimate_of seen.reading → seen.situation.speed ≡ seen.reading.speed →
    found ≡ first_among kind seen e seen.situation.targets →
    found ≡ told_first kind (limits_of computed seen.train_and_track (estimate_of seen.reading)) seen.situation
found_first seen e kind found own same is =
    is ∙ (λ k. told_first kind (limits_of computed seen.train_and_track (own k))
    (record seen.situation {
      speed = (ap (λ (x : Estimate). x.speed) own ∙ sym same) k;
      targets = seen.situation.targets;
    }))

pub returns : goal.returns
unfolding causes_in
returns c =
    let seen = c.args.self.now in
    let now = seen.situation in
    let own : c.asked-asked.result.estimate ≡ estimate_of seen.reading =
    c.asked-asked.ensures.estimate ∙ c.estimate.ensures ∙ (λ k. estimate_of (c.self.view_is k).reading) in
    let same : now.speed ≡ seen.reading.speed =
    subst (λ (s : Seen). s.situation.speed ≡ s.reading.speed) c.self.view_is refl in
    let first = λ (kind : LimitKind) (found : Option PassedTarget)
    (is : found ≡ first_among kind seen c.asked-asked.result.estimate now.targets).
    found_first seen c.asked-asked.result.estimate kind found own same is in
    let limits = limits_of computed seen.train_and_track (estimate_of seen.reading) in
    let over : c.or.result ≡ over_by limits now =
    c.or.ensures
    ∙ (λ k. option_or ((c.by_limit-over.ensures
    ∙ (λ j. by_limit Permitted now (first Permitted _ c.walk.ensures.permitted j))) k) (c.by_release_speed.ensures k))
    ∙ both_in_turn _ _ in
    let warn : c.by_limit-warn.result ≡ warn_by limits now =
    c.by_limit-warn.ensures ∙ (λ k. by_limit Warning now (first Warning _ c.walk.ensures.warning k)) in
    let serv : c.by_limit-serv.result ≡ serv_by limits now =
    c.by_limit-serv.ensures ∙ (λ k. by_limit Sbi now (first Sbi _ c.walk.ensures.sbi k)) in
    let emer : c.emergency-emer.result ≡ emer_by limits now =
    c.emergency-emer.ensures
    ∙ (λ k. emergency_by now ((c.by_limit.ensures ∙ (λ j. by_limit Ebi now (first Ebi _ c.walk.ensures.ebi j))) k)
    (serv k)) in
    let early = c.has_early_release.ensures ∙ (λ k. (c.self.view_is k).train_and_track.national.early_release) in
    λ k. record {
      time = (c.time.ensures.value ∙ (λ j. (c.self.view_is j).reading.time)) k;
      over = over k;
      warn = warn k;
      serv = serv k;
      emer = emer k;
      tco =
          (c.standing.ensures ∙ (λ j. standing c.args.commands.tco
          (c.is_some.ensures j || c.is_some-2.ensures j || c.is_some-3.ensures j) PermittedSpeed)
          ∙ (λ j. standing c.args.commands.tco (is_some (warn j) || is_some (serv j) || is_some (emer j))
          PermittedSpeed)) k;
      sb =
          (c.standing-2.ensures ∙ (λ j. standing c.args.commands.sb (c.is_some-4.ensures j) PermittedSpeed)
          ∙ (λ j. standing c.args.commands.sb (is_some (serv j)) PermittedSpeed)) k;
      eb =
          (c.standing-3.ensures ∙ (λ j. standing c.args.commands.eb (c.is_some-5.ensures j)
          ((c.emergency_until.ensures ∙ (λ i. emergency_until (early i))) j))
          ∙ (λ j. standing c.args.commands.eb (is_some (emer j))
          (emergency_until seen.train_and_track.national.early_release))) k;
    }
