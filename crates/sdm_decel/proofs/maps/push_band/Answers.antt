-- The next stretch adds its slope.
use Rattle.std.proofs.Common.{ℤ, ◌≤◌, ◌^◌, unsigned_abs, w64, ◌∙◌, rules}
use Rattle.std.proofs.lemmas.Int.{to_z-of_z}
use Rattle.std.proofs.lemmas.List.{take_all}
use Rattle.std.proofs.lemmas.List.Elements.{All-same, All-push}
use Rattle.sdm_rules.specs.Decelerations.{UnderTrain, slope_under}
use Rattle.sdm_decel.proofs.Pushes.{row_more}
use Rattle.sdm_decel.proofs.maps.push_band.Goals as goal

pub loop-under-preserved : goal.loop-under-preserved
loop-under-preserved c =
    let slope_is = to_z-of_z w64 c.slope.result (search rules) in
    record {
      added = row_more (λ (u : UnderTrain). slope_under c.args.kind c.args.train.now c.args.national.now u
          c.args.band.now) c.args.unders.now c.loop-under.under-index c.under-item.result _ _ _ _
          c.loop-under-test.true c.under-item.is c.loop-under.invariant.added c.in_ok-push.ensures.items
          (slope_is ∙ c.slope.ensures.value);
      small = λ all. All-same (λ (z : ℤ). unsigned_abs z ≤ 10 ^ 15) _ _ c.in_ok-push.ensures.items
          (All-push (λ (z : ℤ). unsigned_abs z ≤ 10 ^ 15) _ _ (c.loop-under.invariant.small all)
          (rw slope_is c.slope.ensures.size));
    }

pub returns-clause-added : goal.returns-clause-added
returns-clause-added c =
    rw (take_all c.loop-under.under-index c.args.unders.now c.loop-under-test.false) at c.loop-under.invariant.added
