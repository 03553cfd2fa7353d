-- Each turn puts the slope of the next band, which is that in the first cell of the segment.
use Rattle.std.proofs.Common.{◌≡◌, ◌∷◌, ◌++◌, ◌∙◌, ap, sym, decimal, add-one, arith, refl}
use Rattle.sdm_rules.specs.Slopes.{bands_of, meaning_of, segment_of}
use Rattle.sdm_curve.specs.Integrals.{slope_of}
use Rattle.sdm_curve.proofs.Cells.{segment_of_start}
use Rattle.sdm_certify.specs.WrittenLines.{first_cell, segment_line}
use Rattle.sdm_certify.proofs.AddedFields.{field_added}
use Rattle.sdm_certify.proofs.written_map.segment_line.Goals as goal

pub loop-band-preserved : goal.loop-band-preserved
loop-band-preserved c =
    let m = c.args.map.now in
    let band = c.loop-band.band in
    let here : segment_of m.starts (first_cell m c.args.i) ≡ c.args.i =
    segment_of_start m.starts c.args.i c.requires.starts c.requires.known in
    let slope : c.natural_slope.result ≡ (meaning_of m).slope band (first_cell m c.args.i) =
    c.natural_slope.ensures.value ∙ ap (slope_of m band) (sym here) in
    let put : c.add_slope.new.into ≡ c.loop-band.into ++ 44 ∷ decimal ((meaning_of m).slope band (first_cell m c.args.i)) =
    rw slope at c.add_slope.ensures.text in
    rw add-one (record {
      put = field_added _ _ _ _ _ c.loop-band.invariant.put put;
      short = omega (arith, c.loop-band.invariant.short, c.add_slope.ensures.short);
    })

pub returns : goal.returns
unfolding segment_line
returns c =
    let all : c.loop-band.band ≡ bands_of c.args.map.now.uppers =
    omega (arith, c.loop-band.auto.band-end, c.loop-band-test.false, c.bands-band-end.ensures.value) in
    let put = rw all at c.loop-band.invariant.put in
    rw (c.byte.ensures, put.is) refl
