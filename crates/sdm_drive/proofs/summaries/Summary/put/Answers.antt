-- The front end of a counted row lies on the track, so its millimetres are a number of 32 bits.
use Rattle.std.proofs.Common.{arith}
use Rattle.std.proofs.lemmas.Int.{ints}
use Rattle.sdm_drive.proofs.Millimetres.{above_range}
use Rattle.sdm_drive.proofs.summaries.Summary.put.Goals as goal

pub overflow_cast-mm_above : goal.overflow_cast-mm_above
overflow_cast-mm_above c =
    let i = c.self.invariant in
    let range = above_range c.self.inside.front i.from_start (omega (arith, ints)) in
    let is = c.mm_above.ensures in
    omega (arith, ints)
