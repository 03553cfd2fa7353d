-- Slopes of which those of a band are too varied are not accepted.
use Rattle.std.proofs.Common.{ℕ, ℤ, ◌≤ℤ◌, ◌<ℤ◌, arith}
use Rattle.std.proofs.lemmas.Int.{ints}
use Rattle.sdm_curve.specs.Maps.{MapData, AreAccepted}
use Rattle.sdm_curve.specs.Faults.{IsVariedFault}

below_and_above : (a b : ℤ) → a <ℤ b → b ≤ℤ a → ⊥
below_and_above a b lt le = omega (arith, ints, lt, le)

-- slopes of a band that differ too much are not accepted
pub varied_is_refused : (d : MapData) (band : ℕ) (least greatest : ℤ) → IsVariedFault d band least greatest →
    AreAccepted d → ⊥
varied_is_refused d band least greatest h accepted =
    let found = h.1.2 in
    let low = found.range.low in
    let high = found.range.high in
    let even = accepted.even h.1.0 found.known high.0 low.0 high.1 low.1 in
    below_and_above _ _ found.varied (rw (high.2, low.2) at even)
