-- Each part is what its function makes, for the train's length.
use Rattle.std.proofs.Common.{◌≡◌, ℤ, List, pos, map, unsigned_abs, w64, to_z, of_z, ◌≤ℤ◌, ap, subst, ◌∙◌, arith}
use Rattle.std.proofs.lemmas.Int.{ints}
use Rattle.sdm_rules.specs.Decelerations.{UnderTrain, under_train}
use Rattle.sdm_rules.specs.Ranges.{longest_train}
use Rattle.sdm_decel.specs.StretchCells.{AreStretches}
use Rattle.sdm_decel.specs.Slopes.{slopes_of_bands}
use Rattle.sdm_decel.proofs.Sizes.{nat_is}
use Rattle.sdm_decel.proofs.maps.parts_of.Goals as goal

-- a train length in its range is itself in 64 bits
long_is : (given length_cm : ℤ) → (pos 1 ≤ℤ given) × (given ≤ℤ pos longest_train) → given ≡ length_cm →
    pos (unsigned_abs (to_z w64 (of_z w64 given))) ≡ length_cm
long_is given length_cm range is =
    let kept : to_z w64 (of_z w64 given) ≡ given = omega (arith, ints, range.0, range.1) in
    ap (λ (z : ℤ). pos (unsigned_abs z)) kept ∙ nat_is given (omega (arith, ints, range.0)) ∙ is

pub returns : goal.returns
returns c =
    let train = c.args.train.now in
    let track = c.args.track.now in
    let starts = c.in_ok-starts.starts.items in
    let length_cm : ℤ = pos (unsigned_abs (to_z w64 (of_z w64 c.length-length_cm.result))) in
    let long = long_is c.length-length_cm.result train.length_cm c.length-length_cm.ensures.range
    c.length-length_cm.ensures.value in
    let unders_are = c.deref-2.ensures.value ∙ c.in_ok-unders.ensures
    ∙ ap (λ (cells : List ℤ). map (under_train track length_cm) cells) c.deref.ensures.value
    ∙ ap (λ (z : ℤ). map (under_train track z) starts) long in
    record {
      train = c.in_ok-uppers.ensures.accepted;
      uppers_are = c.in_ok-uppers.ensures.value;
      stretches = subst (λ (z : ℤ). AreStretches track z starts) long c.in_ok-starts.ensures;
      slopes_are = c.in_ok-slopes.ensures.value ∙ ap
          (λ (us : List UnderTrain). slopes_of_bands c.args.kind train c.args.national.now us train.bands) unders_are;
      small = c.in_ok-slopes.ensures.small;
    }
