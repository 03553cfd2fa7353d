-- Both zones cover a step exactly between the later of their first steps and the earlier of their last ones.
use Rattle.std.proofs.Common.{◌<◌, pos, get_or, length, min, inl, inr, sym, ap, ◌∙◌, arith}
use Rattle.std.proofs.lemmas.Bool.{cases_lt}
use Rattle.sdm_rules.specs.Profile.{zone_of}
use Rattle.sdm_speed.proofs.ZoneLaws.{is_capped, not_capped}
use Rattle.sdm_speed.proofs.lifts.lower_within.Goals as goal

pub returns : goal.returns
returns c = record {
  speeds = λ speed had k d from to.
      let zone = zone_of (pos c.args.length_cm) c.args.r in
      let start = (get_or c.args.steps.now.list.items k d).start in
      let limited = c.covered-limited.ensures in
      let known : k < length c.args.steps.now.list.items = omega (arith, c.requires.known) in
      let lowered = c.loop-i.invariant in
      elim (cases_lt k c.covered-limited.result.from) [
        | inl before ↦
            lowered.before k (omega (arith, c.max-i.ensures)) ∙ had k d from to
            ∙ sym (not_capped start zone (speed start) (rw c.zone_of.ensures at limited.before k d before known))
        | inr begun ↦ elim (cases_lt k c.covered-limited.result.to) [
          | inl within ↦
              lowered.lowered k (omega (arith, c.max-i.ensures))
              (omega (arith, c.min-i-end.ensures, c.loop-i-test.false))
              ∙ ap (min c.args.r.speed) (had k d from to)
              ∙ sym (is_capped start zone (speed start) (rw c.zone_of.ensures at limited.within k d begun within))
          | inr past ↦
              lowered.behind k (omega (arith, c.max-i.ensures, c.min-i-end.ensures, lowered.inside)) ∙ had k d from to
              ∙ sym (not_capped start zone (speed start) (rw c.zone_of.ensures at limited.past k d past known))
        ]
      ];
}
