-- Worked cases of curves, with q = 100. The slopes 200,000,000,000, 140,000,000,000 and 100,000,000,000 are 1, 0.7 and
-- 0.5 m/s². A change of the square by c needs at 1 m/s² the distance of 5 * 10^14 * c / (27 * 200,000,000,000) =
-- 92.592.. * c grains, and of 185.185.. * c at 0.5 m/s². Feet lie at 1 m, 540,000,000,000 grains, but where it is
-- said.
use Rattle.std.proofs.Common.{◌≡◌, ℕ, pos, [], ◌∷◌, map, refl}
use Rattle.sdm_num.specs.Fractions.{IsSame, whole}
use Rattle.sdm_rules.specs.Slopes.{Slopes, meaning_of}
use Rattle.sdm_rules.specs.Curves.{back, arc_back, place_at, corner, arc, stepped, exact, exact_at}
use Rattle.sdm_laws.specs.CurveLaws.{slack_of}

-- ---- one band

-- one band and one segment of 1 m/s²
abbrev one_slope : Slopes
one_slope = meaning_of (record { q = 100; uppers = []; starts = pos 0 ∷ []; slopes = 200_000_000_000 ∷ [] })

-- 540,000,000,000 - 9,259,259,259.26
back_rounds_down : stepped one_slope (pos 540_000_000_000) 0 10_000 ≡ pos 530_740_740_740
unfolding stepped place_at corner arc arc_back back
back_rounds_down = refl

-- 540,000,000,000 + 9,259,259,259.26
forward_rounds_down : stepped one_slope (pos 540_000_000_000) 10_000 0 ≡ pos 549_259_259_259
unfolding stepped place_at corner arc arc_back back
forward_rounds_down = refl

-- ---- cells

-- 1 m/s² up to cell 8, and 0.5 m/s² from there on
abbrev two_segments : Slopes
two_segments = meaning_of
    (record { q = 100; uppers = []; starts = pos 0 ∷ pos 8 ∷ []; slopes = 200_000_000_000 ∷ 100_000_000_000 ∷ [] })

-- Foot at cell 10: over two cells the square rises by 2 * 5,400,000,000 / 185.185.. = 58,320,000; over the rest of
-- 41,680,000 the place falls from 43,200,000,000 by 3,859,259,259.26.
arcs_end_at_cells : stepped two_segments (pos 54_000_000_000) 0 10_000 ≡ pos 39_340_740_740
unfolding stepped place_at corner arc arc_back back
arcs_end_at_cells = refl

-- foot where cell 8 begins: 43,200,000,000 - 9,259,259,259.26
back_in_the_cell_before : stepped two_segments (pos 43_200_000_000) 0 10_000 ≡ pos 33_940_740_740
unfolding stepped place_at corner arc arc_back back
back_in_the_cell_before = refl

-- and forward: 43,200,000,000 + 18,518,518,518.52
forward_in_the_cell_at_the_place : stepped two_segments (pos 43_200_000_000) 10_000 0 ≡ pos 61_718_518_518
unfolding stepped place_at corner arc arc_back back
forward_in_the_cell_at_the_place = refl

-- ---- bands

-- 1 m/s² up to 8,000 notches, and 0.5 m/s² above
abbrev two_bands : Slopes
two_bands = meaning_of
    (record { q = 100; uppers = 8_000 ∷ []; starts = pos 0 ∷ []; slopes = 200_000_000_000 ∷ 100_000_000_000 ∷ [] })

-- 540,000,000,000 - 5,925,925,925.93, rounded, and for 36,000,000 more another 6,666,666,666.67
back_through_two_bands : stepped two_bands (pos 540_000_000_000) 0 10_000 ≡ pos 527_407_407_407
unfolding stepped place_at corner arc arc_back back
back_through_two_bands = refl

-- as a fraction: (27 * 200,000,000,000 * 540,000,000,000 - 5 * 10^14 * 64,000,000) / (27 * 200,000,000,000)
exact_at_the_border : exact two_bands (pos 540_000_000_000) 0 8_000 ≡ record {
  n = pos 2_884_000_000_000_000_000_000_000;
  m = 5_400_000_000_000;
}
unfolding exact exact_at place_at corner arc arc_back back
exact_at_the_border = refl

-- foot speed 8,000: 540,000,000,000 - 6,666,666,666.67
back_from_a_border_in_the_band_above : stepped two_bands (pos 540_000_000_000) 8_000 10_000 ≡ pos 533_333_333_333
unfolding stepped place_at corner arc arc_back back
back_from_a_border_in_the_band_above = refl

-- and forward: 540,000,000,000 + 5,925,925,925.93
forward_from_a_border_in_the_band_below : stepped two_bands (pos 540_000_000_000) 8_000 0 ≡ pos 545_925_925_925
unfolding stepped place_at corner arc arc_back back
forward_from_a_border_in_the_band_below = refl

-- ---- rounding at borders

-- two bands of 0.7 m/s² that meet at 18 km/h
abbrev equal_bands : Slopes
equal_bands = meaning_of
    (record { q = 100; uppers = 270_000 ∷ []; starts = pos 0 ∷ []; slopes = 140_000_000_000 ∷ 140_000_000_000 ∷ [] })

-- foot at 1000 m: 14 m/s is 756,000 notches, and 14² / (2 * 0.7) = 140, so it is at 860 m
exact_place_at_14_m_s : IsSame (exact equal_bands (pos 540_000_000_000_000) 0 756_000) (whole (pos 464_400_000_000_000))
unfolding exact exact_at place_at corner arc arc_back back
exact_place_at_14_m_s = record { crossed = refl }

-- at 5 m/s the place is 25 / 1.4 m = 9,642,857,142,857.14 grains before the foot; rounding there costs the last grain
one_border_costs_a_grain : stepped equal_bands (pos 540_000_000_000_000) 0 756_000 ≡ pos 464_399_999_999_999
unfolding stepped place_at corner arc arc_back back
one_border_costs_a_grain = refl

-- eight bands of 1 m/s² that meet at 1,000 to 7,000 notches
abbrev eight_bands : Slopes
eight_bands =
    let a : ℕ = 200_000_000_000 in
    meaning_of (record {
      q = 100;
      uppers = 1_000 ∷ 2_000 ∷ 3_000 ∷ 4_000 ∷ 5_000 ∷ 6_000 ∷ 7_000 ∷ [];
      starts = pos 0 ∷ [];
      slopes = a ∷ a ∷ a ∷ a ∷ a ∷ a ∷ a ∷ a ∷ [];
    })

-- With no border it is 530,740,740,740.74. The borders cost 0.41, 0.22, 0.04, 0.85, 0.67, 0.48 and 0.30 grains, and
-- the end 0.78.
seven_borders_back_cost_three_grains : stepped eight_bands (pos 540_000_000_000) 0 10_000 ≡ pos 530_740_740_737
unfolding stepped place_at corner arc arc_back back
seven_borders_back_cost_three_grains = refl

-- With no border it is 549,259,259,259.26. The borders cost 0.22, 0.70, 0.52, 0.33, 0.15, 0.96 and 0.78 grains, and
-- the end 0.59.
seven_borders_forward_cost_four_grains : stepped eight_bands (pos 540_000_000_000) 10_000 0 ≡ pos 549_259_259_255
unfolding stepped place_at corner arc arc_back back
seven_borders_forward_cost_four_grains = refl

-- the most grains that rounding may cost with eight, nine and ten bands: (16^8 - 1) / 15, (8^9 - 1) / 7, (8^10 - 1) / 7
most_slack_by_bands : map slack_of (8 ∷ 9 ∷ 10 ∷ []) ≡ 286_331_153 ∷ 19_173_961 ∷ 153_391_689 ∷ []
most_slack_by_bands = refl
