-- The one that was found stays the first; else this one is, where it is passed by its limit.
use Rattle.std.proofs.Common.{◌≡◌, ◌<◌, ◌≤◌, ℕ, true, false, Some, None, ap, refl, sym, subst, ◌∙◌, arith, is_some}
use Rattle.std.proofs.Common.{rules, to_z, of_z, w64}
use Rattle.std.proofs.lemmas.Bool.Decides.{nat_tests}
use Rattle.std.proofs.lemmas.Int.{ints, to_z-of_z}
use Rattle.sdm_num.specs.Bounds.{mm_below}
use Rattle.sdm_rules.specs.Limits.{computed, limit_in, limits_of}
use Rattle.sdm_rules.specs.Margins.{margin_of}
use Rattle.sdm_rules.specs.Targets.{with_margin}
use Rattle.sdm_rules.specs.Triggers.{front_for, passes}
use Rattle.sdm_limits.specs.Sides.{place_of, place_where}
use Rattle.sdm_limits.proofs.Passed.{past_of}
use Rattle.sdm_supervisor.proofs.FirstLaws.{limit_told, now_first, still_first, unpassed}
use Rattle.sdm_supervisor.proofs.PassedLaws.{not_above, not_there}
use Rattle.sdm_supervisor.proofs.ShownLaws.{above, speed_is}
use Rattle.sdm_supervisor.proofs.sight.Sight.or_passed.Goals as goal

pub returns-then-is_some : goal.returns-then-is_some
returns-then-is_some c ts is =
    let there : is_some c.args.found ≡ true = search rules in
    still_first c.args.kind c.args.self.now c.args.asked.now.estimate ts c.args.kept.now.target c.args.found there is

pub returns-then-le : goal.returns-then-le
returns-then-le c ts is =
    let now = c.args.self.now.situation in
    let e = c.args.asked.now.estimate in
    let t = c.args.kept.now.target in
    let kind = c.args.kind in
    let speed = c.speed-2.ensures ∙ speed_is kind t c.args.kept.now.speeds c.requires.kept.speeds in
    let within : e.speed ≤ with_margin (margin_of kind) t =
    subst (λ (n : ℕ). e.speed ≤ n) speed (grind (arith, nat_tests)) in
    unpassed kind c.args.self.now e ts t c.args.found
    (not_above e.speed now.est now.front t kind (limits_of computed c.args.self.now.train_and_track e t) within) is

pub returns-in_default : goal.returns-in_default
returns-in_default c ts is =
    let seen = c.args.self.now in
    let now = seen.situation in
    let e = c.args.asked.now.estimate in
    let t = c.args.kept.now.target in
    let kind = c.args.kind in
    let none : limit_in kind (limits_of computed seen.train_and_track e t) ≡ None =
    (λ k. limit_in kind (sym c.requires.limits k)) ∙ sym c.limit.ensures ∙ ap place_where c.in_default.is in
    unpassed kind seen e ts t c.args.found
    (not_there e.speed now.est now.front t kind (limits_of computed seen.train_and_track e t) none) is

pub returns-then-not-is_passed_by : goal.returns-then-not-is_passed_by
returns-then-not-is_passed_by c ts is =
    let seen = c.args.self.now in
    let now = seen.situation in
    let e = c.args.asked.now.estimate in
    let t = c.args.kept.now.target in
    let kind = c.args.kind in
    let limits = limits_of computed seen.train_and_track e t in
    let speed = c.speed-2.ensures ∙ speed_is kind t c.args.kept.now.speeds c.requires.kept.speeds in
    let faster : with_margin (margin_of kind) t < e.speed =
    subst (λ (n : ℕ). n < e.speed) speed (grind (arith, nat_tests)) in
    let limit : limit_in kind limits ≡ Some (place_of c.in-Some.limit) =
    (λ k. limit_in kind (sym c.requires.limits k)) ∙ sym c.limit.ensures ∙ ap place_where c.in-Some.is in
    let here : c.is_passed_by.result ≡ passes kind e.speed now.est now.front 0 t limits =
    past_of c.is_passed_by.ensures (c.front_for.ensures
    ∙ (λ k. front_for (c.self.view_is k).situation.est (c.self.view_is k).situation.front t.kind)) refl
    ∙ sym (above e.speed now.est now.front t kind limits (place_of c.in-Some.limit) limit faster) in
    let fails : c.is_passed_by.result ≡ false = search rules in
    unpassed kind seen e ts t c.args.found (sym here ∙ fails) is

pub returns : goal.returns
returns c ts is =
    let seen = c.args.self.now in
    let now = seen.situation in
    let e = c.args.asked.now.estimate in
    let t = c.args.kept.now.target in
    let kind = c.args.kind in
    let limits = limits_of computed seen.train_and_track e t in
    let speed = c.speed-2.ensures ∙ speed_is kind t c.args.kept.now.speeds c.requires.kept.speeds in
    let faster : with_margin (margin_of kind) t < e.speed =
    subst (λ (n : ℕ). n < e.speed) speed (grind (arith, nat_tests)) in
    let limit : limit_in kind limits ≡ Some (place_of c.in-Some.limit) =
    (λ k. limit_in kind (sym c.requires.limits k)) ∙ sym c.limit.ensures ∙ ap place_where c.in-Some.is in
    let here : c.is_passed_by.result ≡ passes kind e.speed now.est now.front 0 t limits =
    past_of c.is_passed_by.ensures (c.front_for.ensures
    ∙ (λ k. front_for (c.self.view_is k).situation.est (c.self.view_is k).situation.front t.kind)) refl
    ∙ sym (above e.speed now.est now.front t kind limits (place_of c.in-Some.limit) limit faster) in
    let passed : c.is_passed_by.result ≡ true = search rules in
    let none : c.args.found ≡ None = search rules in
    let place : to_z w64 (of_z w64 c.mm_below.result) ≡ mm_below t.place =
    to_z-of_z w64 c.mm_below.result (search (rules, ints)) ∙ c.mm_below.ensures in
    let told_limit : to_z w64 (of_z w64 c.mm_below-2.result) ≡ mm_below c.in-Some.limit.at =
    to_z-of_z w64 c.mm_below-2.result (search (rules, ints)) ∙ c.mm_below-2.ensures ∙ ap mm_below c.at.ensures in
    (λ k. Some (record {
      kind = t.kind;
      place = place k;
      speed = t.speed;
      limit = (told_limit ∙ sym (limit_told kind seen e ts t c.in-Some.limit.at limit)) k;
    }))
    ∙ now_first kind seen e ts t (sym none ∙ is) (sym here ∙ passed)
