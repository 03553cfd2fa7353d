-- What counts of all targets by the reading's own estimate is shown.
use Rattle.std.proofs.Common.{◌≡◌, pos, ◌-ℤ◌, Option, Some, ap, sym, subst, ◌∙◌, to_z, of_z, w64, rules}
use Rattle.std.specs.Prelude.{option_map}
use Rattle.std.specs.Int.{int_max}
use Rattle.std.proofs.lemmas.Int.{ints, to_z-of_z}
use Rattle.sdm_num.specs.Bounds.{mm_below}
use Rattle.sdm_num.specs.Readings.{Estimate, OdometerReading, estimate_of}
use Rattle.sdm_rules.specs.Data.{TrainAndTrack}
use Rattle.sdm_rules.specs.Display.{distance_to, shown_as, shown_target}
use Rattle.sdm_rules.specs.Limits.{computed, limits_of}
use Rattle.sdm_rules.specs.Triggers.{Situation, front_for}
use Rattle.sdm_supervisor.specs.declared.shown.Counting.{Counting}
use Rattle.sdm_supervisor.specs.Sights.{IsCounting}
use Rattle.sdm_supervisor.proofs.ShownLaws.{shown_is}
use Rattle.sdm_supervisor.proofs.sight.Sight.shown.Goals as goal

-- what is shown of what counts, by the estimate that was asked
shown_of : (d : TrainAndTrack) (r : OdometerReading) (now : Situation) (e : Estimate) (counting : Option Counting) →
    e ≡ estimate_of r →
    IsCounting (λ t. (limits_of computed d e t).permitted) e.speed now.targets counting →
    shown_target d r now ≡ option_map (λ c. shown_as now c.target) counting
shown_of d r now e counting is counted =
    shown_is d r now counting (subst (λ (x : Estimate). IsCounting (λ t. (limits_of computed d x t).permitted) x.speed
    now.targets counting) is counted)

pub returns-in_err-target : goal.returns-in_err-target
returns-in_err-target c =
    let seen = c.args.self.now in
    c.from_residual.ensures
    ∙ sym (shown_of seen.train_and_track seen.reading seen.situation c.asked-asked.result.estimate c.counting.result
    (c.asked-asked.ensures.estimate ∙ c.estimate.ensures ∙ (λ k. estimate_of (c.self.view_is k).reading))
    c.counting.ensures
    ∙ ap (option_map (λ x. shown_as seen.situation x.target)) c.in_err-target.was)

pub returns : goal.returns
returns c =
    let seen = c.args.self.now in
    let counting = c.in_ok-target.field-0 in
    let distance : to_z w64 (of_z w64 c.mm_past.result) ≡ distance_to seen.situation counting.target =
    to_z-of_z w64 c.mm_past.result (search (rules, ints)) ∙ c.mm_past.ensures
    ∙ (λ k. int_max (mm_below (counting.target.place -ℤ (c.front_for.ensures
    ∙ ap (λ (x : Situation). front_for x.est x.front counting.target.kind) (λ j. (c.self.view_is j).situation)) k))
    (pos 0)) in
    (λ k. Some (record { kind = counting.target.kind; speed = counting.target.speed; distance = distance k }))
    ∙ sym (shown_of seen.train_and_track seen.reading seen.situation c.asked-asked.result.estimate c.counting.result
    (c.asked-asked.ensures.estimate ∙ c.estimate.ensures ∙ (λ k. estimate_of (c.self.view_is k).reading))
    c.counting.ensures
    ∙ ap (option_map (λ x. shown_as seen.situation x.target)) c.in_ok-target.was)
