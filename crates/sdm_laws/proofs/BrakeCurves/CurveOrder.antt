-- The laws of order: the exact places of two squares are joined by a chain of arcs, and stepped places stay in order.
use Rattle.std.proofs.Common.{◌≡◌, ℕ, ℤ, pos, ◌*◌, ◌<◌, ◌≤◌, ◌+ℤ◌, ◌*ℤ◌, ◌≤ℤ◌, ◌<ℤ◌, ap, arith, refl, ◌∙◌}
use Rattle.std.proofs.lemmas.Int.{ints}
use Rattle.std.proofs.lemmas.Nat.{mul-le}
use Rattle.sdm_num.specs.Fractions.{Fraction, IsAtMost, IsBefore, floor, whole}
use Rattle.sdm_num.proofs.Floors.{floor_is, floor_low, floor_high, scale-<_cancel}
use Rattle.sdm_num.proofs.Order.{at_most_in, at_most_out, at_most_trans}
use Rattle.sdm_rules.specs.Slopes.{Slopes, IsUsable}
use Rattle.sdm_rules.specs.Curves.{as_is, to_grain, arc, place_at, exact_at, stepped}
use Rattle.sdm_rules.specs.Motion.{IsInBand}
use Rattle.sdm_laws.specs.CurveLaws.{IsAtFoot}
use Rattle.sdm_laws.proofs.OneBand.Arcs.{arc_from, arc_to}
use Rattle.sdm_laws.proofs.OneBand.BothWays.{arc_part, arc_none}
use Rattle.sdm_laws.proofs.BrakeCurves.Chains.{Chain, arrived, along, chain_joined, chain_from, chain_at_most}
use Rattle.sdm_laws.proofs.BrakeCurves.Chains.{chain_before, arc_at_most}
use Rattle.sdm_laws.proofs.BrakeCurves.Corners.{joined, corner_own, foot_at, own_of}

-- ---- exact places

-- the exact places of two squares are joined
pub exact_chain : (on : Slopes) (s : ℕ) → IsUsable on → 0 < s → (f : ℤ) (w u' u : ℕ) → u' ≤ u →
    Chain on s (exact_at on s f w u) u (exact_at on s f w u') u'
unfolding exact_at
exact_chain on s usable s_pos f w u' u le =
    joined as_is on s (Chain on s) (chain_joined on s) in_band (λ x. refl) (λ x h. h) usable s_pos f w u' u le
  where
    in_band : (band : ℕ) (x : Fraction) (u z' z : ℕ) → IsInBand on s band z' → IsInBand on s band z → z' ≤ z → 0 < x.m →
        Chain on s (arc on s band x u z) z (arc on s band x u z') z'
    in_band band x u z' z h' h le x_pos =
        let part = arc_part on s band (usable.positive band h.known) s_pos x u z' z le x_pos in
        along band _ _ _ z z' z' h h' le part (arrived _ z' (arc_to on s band _ _ _ part))

-- an exact place is a fraction: its denominator is above 0
pub exact_positive : (on : Slopes) (s : ℕ) (f : ℤ) (w u : ℕ) → IsUsable on → 0 < s → 0 < (exact_at on s f w u).m
exact_positive on s f w u usable s_pos = chain_from on s _ _ _ _ (exact_chain on s usable s_pos f w u u (omega arith))

-- the exact place of a greater square is not past that of a lesser one
pub exact_falls : (on : Slopes) (s : ℕ) (f : ℤ) (w u' u : ℕ) → IsUsable on → 0 < s → u' ≤ u →
    IsAtMost (exact_at on s f w u) (exact_at on s f w u')
exact_falls on s f w u' u usable s_pos le = chain_at_most on s _ _ _ _ (exact_chain on s usable s_pos f w u' u le)

-- and before it where the squares differ
pub exact_before : (on : Slopes) (s : ℕ) (f : ℤ) (w u' u : ℕ) → IsUsable on → 0 < s → u' < u →
    IsBefore (exact_at on s f w u) (exact_at on s f w u')
exact_before on s f w u' u usable s_pos lt =
    chain_before on s _ _ _ _ usable.unit lt (exact_chain on s usable s_pos f w u' u (omega arith))

-- ---- rounding down

-- places in order are in order when they are rounded down
pub floor_order : (x y : Fraction) → 0 < x.m → 0 < y.m → IsAtMost x y → floor x ≤ℤ floor y
floor_order x y x_pos y_pos le =
    let low : IsAtMost (whole (floor x)) x = at_most_in (floor x) x (floor_low x.m x.n x_pos) in
    let most = at_most_out (floor x) y (at_most_trans (whole (floor x)) x y x_pos low le) in
    let high = floor_high y.m y.n y_pos in
    let lt : floor x <ℤ (floor y +ℤ pos 1) =
    scale-<_cancel y.m (floor x) (floor y +ℤ pos 1) (omega (arith, ints)) in
    omega (arith, ints)

-- a whole place stays where it is
pub floor_whole : (a : ℤ) → floor (whole a) ≡ a
floor_whole a = floor_is 1 a a (omega arith) (omega (arith, ints)) (omega (arith, ints))

-- what is rounded down stays so
pub grain_stays : (x : Fraction) → to_grain (to_grain x) ≡ to_grain x
grain_stays x = ap whole (floor_whole (floor x))

-- a stepped place is whole
pub whole_place : (on : Slopes) (f : ℤ) (w z : ℕ) →
    whole (floor (place_at to_grain on 1 f w z)) ≡ place_at to_grain on 1 f w z
unfolding place_at
whole_place on f w z = grain_stays _

-- the stepped place of a greater speed is not past that of a lesser one
pub stepped_falls : (on : Slopes) (f : ℤ) (w v' v : ℕ) → IsUsable on → v' ≤ v →
    stepped on f w v ≤ℤ stepped on f w v'
unfolding stepped
stepped_falls on f w v' v usable le =
    joined to_grain on 1 (λ y _ x _. floor y ≤ℤ floor x) (λ y x z u v w h k. omega (arith, ints, h, k)) in_band
    grain_stays (λ x h. omega arith) usable (omega arith) f w (v' * v') (v * v) (mul-le v' v' v v le le)
  where
    in_band : (band : ℕ) (x : Fraction) (u z' z : ℕ) → IsInBand on 1 band z' → IsInBand on 1 band z → z' ≤ z → 0 < x.m →
        floor (to_grain (arc on 1 band x u z)) ≤ℤ floor (to_grain (arc on 1 band x u z'))
    in_band band x u z' z h' h le x_pos =
        let part = arc_part on 1 band (usable.positive band h.known) (omega arith) x u z' z le x_pos in
        rw (floor_whole (floor (arc on 1 band x u z)), floor_whole (floor (arc on 1 band x u z')))
        (floor_order _ _ (arc_from on 1 band _ _ _ part) (arc_to on 1 band _ _ _ part)
        (arc_at_most on 1 band _ _ _ part))

-- ---- at the foot

-- with any rounding the place of the foot's square is the foot, rounded, on any slopes
place_foot : (round : Fraction → Fraction) (on : Slopes) (s : ℕ) (f : ℤ) (w : ℕ) →
    place_at round on s f w (s * (w * w)) ≡ round (whole (pos s *ℤ f))
unfolding place_at
place_foot round on s f w =
    rw (corner_own round on s (foot_at s f w) (own_of on s w)) (ap round (arc_none on s (own_of on s w) _ _))

-- the exact place of the foot's square is the foot, at each scale
pub exact_foot : (on : Slopes) (s : ℕ) (f : ℤ) (w : ℕ) → exact_at on s f w (s * (w * w)) ≡ whole (pos s *ℤ f)
unfolding exact_at
exact_foot on s f w = place_foot as_is on s f w

-- the stepped place of the foot speed is the foot
pub stepped_foot : (on : Slopes) (f : ℤ) (w : ℕ) → stepped on f w w ≡ f
unfolding stepped
stepped_foot on f w =
    let one : w * w ≡ 1 * (w * w) = omega arith in
    let foot : pos 1 *ℤ f ≡ f = omega (arith, ints) in
    ap (λ (z : ℕ). floor (place_at to_grain on 1 f w z)) one
    ∙ (ap floor (place_foot to_grain on 1 f w) ∙ (floor_whole _ ∙ (floor_whole _ ∙ foot)))

-- at its foot speed a curve is at its foot, exact and stepped
pub at_foot : (on : Slopes) (f : ℤ) (w : ℕ) → IsAtFoot on f w
at_foot on f w = record { exact_foot = λ s. exact_foot on s f w; stepped_foot = stepped_foot on f w }
