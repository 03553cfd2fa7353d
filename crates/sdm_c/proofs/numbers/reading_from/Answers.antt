use Rattle.std.proofs.Common.{◌≡◌, ◌∙◌, to_z, of_z, w16}
use Rattle.sdm_c.proofs.ReadingRanges.{fits, with_accel}
use Rattle.sdm_c.proofs.numbers.reading_from.Goals as goal

pub returns : goal.returns
returns c =
    let given = c.in-Some.ensures in
    let passed : to_z w16 (of_z w16 c.in-Some.accel) ≡ c.in-Some.accel = fits c.in-Some.accel (rw (given.1) given.0) in
    with_accel c.args.reading (to_z w16 (of_z w16 c.in-Some.accel)) c.reading_with.result (passed ∙ given.1)
    c.reading_with.ensures
