-- Worked cases of motions at scale 1, with q = 100: which steps are steps, and that the bounds of the reaction are
-- reached.
use Rattle.std.proofs.Common.{◌≡◌, ℕ, ℤ, zero, suc, pos, [], ◌∷◌, ◌*◌, ◌<◌, ◌<ℤ◌, get_or, refl, arith}
use Rattle.std.proofs.lemmas.Int.{ints}
use Rattle.std.specs.Prelude.{◌≤ℤ◌}
use Rattle.sdm_rules.specs.declared.motions.Phase.TheVariants.{Traction, Build}
use Rattle.sdm_rules.specs.declared.motions.Slice.{Slice}
use Rattle.sdm_rules.specs.declared.motions.Start.{Start}
use Rattle.sdm_rules.specs.Slopes.{Slopes, SlopeMap, meaning_of}
use Rattle.sdm_rules.specs.Motion.{IsInBand, IsStep, IsBraking, AreSlices, slice_ends, last_point}
use Rattle.sdm_rules.specs.Reaction.{build_up_of, v_bec, d_bec}
use Rattle.sdm_laws.proofs.OneBand.Segments.{IsRising, slope_in_segment}

-- ---- steps

-- 1 m/s² up to cell 8, and 0.5 m/s² from there on
abbrev two_segments : SlopeMap
two_segments = record {
  q = 100;
  uppers = [];
  starts = pos 0 ∷ pos 8 ∷ [];
  slopes = 200_000_000_000 ∷ 100_000_000_000 ∷ [];
}

starts_rise : IsRising (pos 0 ∷ pos 8 ∷ [])
starts_rise zero zero le lt = omega (arith, ints)
starts_rise zero (suc zero) le lt = omega (arith, ints)
starts_rise (suc zero) (suc zero) le lt = omega (arith, ints)
starts_rise i (suc (suc j)) le lt = absurd (omega arith)
starts_rise (suc i) zero le lt = absurd (omega arith)
starts_rise (suc (suc i)) (suc zero) le lt = absurd (omega arith)

before_cell_8 : (cell : ℤ) → cell <ℤ pos 8 → (meaning_of two_segments).slope 0 cell ≡ 200_000_000_000
before_cell_8 cell lt = slope_in_segment two_segments 0 cell 0 starts_rise
    (record { known = omega arith; low = λ none. absurd (omega arith); high = later })
  where
    later : (k : ℕ) → 0 < k → k < 2 → cell <ℤ get_or (pos 0 ∷ pos 8 ∷ []) k (pos 0)
    later zero p l = absurd (omega arith)
    later (suc zero) p l = lt
    later (suc (suc k)) p l = absurd (omega arith)

from_cell_8 : (cell : ℤ) → pos 8 ≤ℤ cell → (meaning_of two_segments).slope 0 cell ≡ 100_000_000_000
from_cell_8 cell le = slope_in_segment two_segments 0 cell 1 starts_rise
    (record { known = omega arith; low = λ _. le; high = λ k l m. absurd (omega arith) })

-- Over the cells 6 and 7 the square falls by 2 * 58,320,000 at 1 m/s², and over the cells 8 and 9 by 58,320,000 at 0.5
-- m/s². The steps meet where the slope changes: a step does not ask for the slope of a cell that it only touches.
steps_meet_where_the_slope_changes :
    IsBraking (meaning_of two_segments) 1 (record { place = pos 32_400_000_000; square = 174_960_000 })
    (record { place = pos 43_200_000_000; square = 58_320_000 } ∷ record { place = pos 54_000_000_000; square = 0 }
    ∷ [])
steps_meet_where_the_slope_changes = (
  record {
    band = 0;
    slope = 200_000_000_000;
    from_band = in_band 174_960_000;
    to_band = in_band 58_320_000;
    one_slope = λ cell part. before_cell_8 cell (let b = part.begins in omega (arith, ints));
    brakes = record { forward = omega (arith, ints); slower = omega arith; enough = omega (arith, ints) };
  },
  (
    record {
      band = 0;
      slope = 100_000_000_000;
      from_band = in_band 58_320_000;
      to_band = in_band 0;
      one_slope = λ cell part. from_cell_8 cell (let e = part.ends in omega (arith, ints));
      brakes = record { forward = omega (arith, ints); slower = omega arith; enough = omega (arith, ints) };
    },
    refl,
  ),
)
  where
    in_band : (u : ℕ) → IsInBand (meaning_of two_segments) 1 0 u
    in_band u = record { known = omega arith; above = omega arith; below = λ lt. absurd (omega arith) }

-- 1 m/s² up to 8,000 notches, and 0.5 m/s² above
abbrev two_bands : Slopes
two_bands = meaning_of
    (record { q = 100; uppers = 8_000 ∷ []; starts = pos 0 ∷ []; slopes = 200_000_000_000 ∷ 100_000_000_000 ∷ [] })

-- no step goes from one band into another, however long its distance
no_step_over_a_border : (p p' : ℤ) →
    IsStep two_bands 1 (record { place = p; square = 10_000 * 10_000 }) (record { place = p'; square = 0 }) → ⊥
no_step_over_a_border p p' step = neither step.band step.from_band step.to_band
  where
    neither : (band : ℕ) → IsInBand two_bands 1 band (10_000 * 10_000) → IsInBand two_bands 1 band 0 → ⊥
    neither zero from to = let below = from.below (omega arith) in omega arith
    neither (suc zero) from to = let above = to.above in omega arith
    neither (suc (suc band)) from to = let known = to.known in omega arith

-- ---- the reaction

-- 1 m/s² for 1 s, and then 0.4 m/s² for 2 s
abbrev gaining : Start
gaining = record { front = pos 0; speed = 0; accel1 = 100; accel2 = 40; traction = 10; berem = 20 }

-- V_bec = 54,000 + 43,200 notches, 1.8 m/s; D_bec = 0.5 + 2.8 m, in 540,000,000,000 grains each
bounds_at_no_target : (v_bec (build_up_of gaining) 0 ≡ 97_200) × (d_bec (build_up_of gaining) 0 ≡ 1_782_000_000_000)
bounds_at_no_target = (refl, refl)

-- a train that gains all that it may
abbrev gained : Slice
gained = record { phase = Traction; time = 10; to = 54_000; length = 270_000_000_000 }

abbrev gained_more : Slice
gained_more = record { phase = Build; time = 20; to = 97_200; length = 1_512_000_000_000 }

-- it gains no more than it may, and comes no farther
these_are_slices : AreSlices gaining 0 (gained ∷ gained_more ∷ [])
these_are_slices =
    (record { gains = omega arith; moves = omega arith }, (record { gains = omega arith; moves = omega arith }, tt))

-- comes as far as D_bec and gets as fast as V_bec
bounds_are_reached :
    last_point (record { place = pos 0; square = 0 }) (slice_ends (pos 0) 0 (gained ∷ gained_more ∷ []))
    ≡ record {
      place = pos (d_bec (build_up_of gaining) 0);
      square =
          v_bec (build_up_of gaining) 0 * v_bec (build_up_of gaining) 0;
    }
bounds_are_reached = refl
