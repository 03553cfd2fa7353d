-- It was told of all bands.
use Rattle.std.proofs.Common.{◌≡◌, arith}
use Rattle.sdm_rules.specs.Slopes.{bands_of}
use Rattle.sdm_certify.proofs.written_map.are_same_slopes.Goals as goal

pub returns : goal.returns
returns c =
    let all : c.loop-band.band ≡ bands_of c.args.map.now.uppers =
    omega (arith, c.loop-band.auto.band-end, c.loop-band-test.false, c.bands-band-end.ensures.value) in
    rw all at c.loop-band.invariant.told
