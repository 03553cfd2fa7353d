-- The next band adds its row.
use Rattle.std.proofs.Common.{◌++◌, List, ℤ, map, ap, sym, ◌∙◌}
use Rattle.sdm_rules.specs.declared.data.Band.{Band}
use Rattle.sdm_rules.specs.Decelerations.{UnderTrain, slope_under}
use Rattle.sdm_decel.proofs.Pushes.{flat_map_next}
use Rattle.sdm_decel.proofs.maps.slopes.Goals as goal

pub loop-i-preserved : goal.loop-i-preserved
loop-i-preserved c =
    let row : Band → List ℤ = λ b.
    map (λ (u : UnderTrain). slope_under c.args.kind c.args.train.now c.args.national.now u b) c.args.unders.now in
    record {
      value = c.in_ok-push_band.ensures.added ∙ ap (λ (xs : List ℤ). xs
          ++ row c.band.result.now) c.loop-i.invariant.value
          ∙ sym (flat_map_next row c.args.train.now.bands c.loop-i.i c.band.result.now c.band.ensures.value);
      small = c.in_ok-push_band.ensures.small c.loop-i.invariant.small;
    }
