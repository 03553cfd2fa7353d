-- What the targets say is said first, and behind it what else triggers.
use Rattle.std.proofs.Common.{◌≡◌, ◌||◌, map, ◌++◌, ap, sym, ◌∙◌, arith}
use Rattle.std.specs.Prelude.{is_some}
use Rattle.std.proofs.Math.Bool.{or-false, or-true}
use Rattle.sdm_num.specs.Readings.{estimate_of}
use Rattle.sdm_rules.specs.declared.limits.LimitKind.TheVariants.{Permitted, Indication}
use Rattle.sdm_rules.specs.Triggers.{Situation, above_ceiling}
use Rattle.sdm_braking.specs.KeptCurves.{targets_in}
use Rattle.sdm_braking.specs.KeptFalls.{target_of}
use Rattle.sdm_supervisor.specs.Verdicts.{IsSaid}
use Rattle.sdm_supervisor.proofs.EnoughLaws.{said_of_all}
use Rattle.sdm_supervisor.proofs.VerdictLaws.{above, no_ceiling, triggers_are, with_ceiling, with_release}
use Rattle.sdm_supervisor.proofs.verdicts.Verdict.of.Goals as goal
use Rattle.sdm_supervisor.proofs.verdicts.Verdict.of.Goals.{then-lt, else-lt, in-Some, in_default}

pub returns : goal.returns
returns c =
    let d = c.sight.inside.braking.now in
    let r = c.sight.inside.reading.now in
    let release = c.sight.inside.release_kmh in
    let targets = map target_of c.sight.inside.falls ++ targets_in c.sight.inside.end.now (is_some release) in
    let s : Situation = record {
      speed = r.speed;
      ceiling_kmh = c.sight.inside.ceiling_kmh;
      est = r.est;
      front = r.max;
      targets = targets;
      past_end = c.sight.inside.past_end;
      release = release;
      in_use = c.sight.inside.in_use;
    } in
    let first = c.walk_few.new.found in
    let said : IsSaid d c.asked-asked.result.estimate r.est r.max targets first =
    rw (sym c.sight.view_is) at (said_of_all _ _ c.walk_few.new.found c.walk_few.ensures) in
    let v = c.speed_mm_s-v_est.ensures in
    let is_above : c.lt.result ≡ above_ceiling Permitted s =
    above c.lt.ensures (c.of_kmh-v_mrsp.ensures ∙ omega arith) v in
    let with_its_ceiling : c.if-lt.said ≡ with_ceiling s first = elim c.if-lt.branch [
      | then-lt w ↦
          let t = first.triggers in
          let dv = w.of_kmh-dv.ensures in
          let warning = rw (c.of_kmh-v_mrsp.ensures, dv.warning) at w.plus.ensures in
          let sbi = rw (c.of_kmh-v_mrsp.ensures, dv.sbi) at w.plus-then-lt.ensures in
          let ebi = rw (c.of_kmh-v_mrsp.ensures, dv.ebi) at w.plus-then-lt-2.ensures in
          w.said-is ∙ (λ k. record first {
            triggers = record {
              over = (sym (or-true t.over) ∙ (λ i. t.over || (sym w.if-lt.true ∙ is_above) i)) k;
              warn = t.warn || above w.lt-then-lt.ensures warning v k;
              serv = t.serv || above w.lt-then-lt-2.ensures sbi v k;
              emer = t.emer || above w.lt-then-lt-3.ensures ebi v k;
            };
          })
      | else-lt w ↦ w.said-is ∙ no_ceiling s (sym is_above ∙ w.if-lt.false) first
    ] in
    let t = c.if-lt.said.triggers in
    let with_its_release : c.match-sight.said ≡ with_release s c.if-lt.said = elim c.match-sight.branch [
      | in-Some w ↦
          let is_above = above w.lt-is_above.ensures w.of_kmh.ensures v in
          rw w.in-Some.is (w.said-is ∙ (λ k. record c.if-lt.said {
            triggers = record t { over = t.over || is_above k; emer = t.emer || is_above k };
          }))
      | in_default w ↦
          rw w.in_default.is (w.said-is ∙ (λ k. record c.if-lt.said {
            triggers = record t { over = sym (or-false t.over) k; emer = sym (or-false t.emer) k };
          }))
    ] in
    let is : IsSaid d (estimate_of r) r.est r.max targets first =
    rw (sym (c.asked-asked.ensures.estimate ∙ c.estimate.ensures)) said in
    let value : c.match-sight.said ≡ with_release s (with_ceiling s first) =
    with_its_release ∙ ap (with_release s) with_its_ceiling in
    rw (sym c.sight.view_is, value) (record {
      triggers = triggers_are s _ first is.passed.each;
      indicated = is.passed.each Indication;
      covered = is.passed.covered;
      nearest = is.nearest;
    })
