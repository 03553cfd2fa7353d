-- What a kept map stands for is usable, so the laws of motions hold on it.
use Rattle.std.proofs.Common.{ℕ, ◌*◌, ◌<◌, arith}
use Rattle.std.proofs.Math.Nat.{mul-le-mul_left}
use Rattle.sdm_rules.specs.Slopes.{meaning_of}
use Rattle.sdm_laws.proofs.Moving.Stretch.{stretch}
use Rattle.sdm_laws.proofs.Moving.Braking.{braking}
use Rattle.sdm_laws.proofs.Moving.Reaction.{reaction}
use Rattle.sdm_curve.proofs.Meanings.{usable_of}
use Rattle.sdm_motion.specs.MapLaws.{LawOfMapStretch, LawOfMapBraking, LawOfMapReaction, LawOfMapMotion}

-- the law of one stretch
pub map_stretch : LawOfMapStretch
map_stretch map m f w a x y kept = stretch (meaning_of map) m f w a x y (usable_of map kept)

-- the law of braking
pub map_braking : LawOfMapBraking
map_braking map m f w x ys kept = braking (meaning_of map) m f w x ys (usable_of map kept)

-- the law of the reaction
pub map_reaction : LawOfMapReaction
map_reaction map start m target = reaction (meaning_of map) start m target

-- the square of a scale is above 0 too
pub square_some : (s : ℕ) → 0 < s → 0 < s * s
square_some s some = omega (arith, mul-le-mul_left s some)

-- the law of a whole motion
pub map_motion : LawOfMapMotion
map_motion map start m f w kept some is =
    map_braking map (m.scale * m.scale) f w m.first m.more kept (square_some m.scale some) is.braking
