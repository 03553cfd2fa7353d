use Rattle.std.proofs.Common.{arith, ◌≡◌, ◌*◌, sym, ◌∙◌, ℕ}
use Rattle.std.proofs.lemmas.Int.{ints}
use Rattle.std.proofs.lemmas.Nat.{mul-le}
use Rattle.sdm_motion.proofs.Enough.{begins_low}
use Rattle.sdm_motion.proofs.Known.{known_of, known_braking}
use Rattle.sdm_motion.proofs.motion.is_motion.Goals as goal

same_product : (a b c d : ℕ) → a ≡ c → b ≡ d → a * b ≡ c * d
same_product a b c d e f = cc

pub is_first-requires-clause-low : goal.is_first-requires-clause-low
is_first-requires-clause-low c =
    let few = c.requires.few in
    begins_low (c.args.scale * c.args.scale) c.args.start.now.front _
    (omega (arith, mul-le c.args.scale c.args.scale 16 16 few few)) c.beginning.ensures.front
    (omega (arith, ints, c.beginning.ensures.value))

pub returns : goal.returns
returns c = (
  (λ t. known_of _ _ _ _ _ c.in-Some.first.now _ _ (omega (arith, ints, c.beginning.ensures.value))
      (same_product c.from.result c.from-2.result c.args.scale c.args.start.now.speed c.from.ensures
      (c.from-2.ensures ∙ c.notches.ensures.value)) (sym c.in-Some.ensures.value)
      (c.are_in_range.ensures.0 c.if-not-are_in_range.false) (c.is_reaction.ensures.0 c.if-not-is_reaction.false)
      (c.is_first.ensures.0 c.if-not-is_first.false) (c.are_braking.ensures.0 t)),
  (λ h. c.are_braking.ensures.1 (known_braking _ _ _ _ _ h)),
)
