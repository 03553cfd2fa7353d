-- The ranges of what limits are found from (own).
use Rattle.std.specs.Prelude.{◌≡◌, ℕ, ℤ, pos, neg_ℤ, Option, ◌+◌, ◌*◌, ◌≤◌, ◌≤ℤ◌, ◌^◌}
use Rattle.std.specs.Option.{ForSome}
use Rattle.sdm_num.specs.Bounds.{Bound}
use Rattle.sdm_num.specs.Units.{notches, notches_of_mm_s}
use Rattle.sdm_rules.specs.declared.data.Times.{Times}
use Rattle.sdm_rules.specs.Reaction.{BuildUp}
use Rattle.sdm_rules.specs.Ranges.{top_kmh}

-- no time of a train is longer, in ds: 30 s
abbrev pub most_time : ℕ
most_time = 300

-- times of reaction, none of them too long
pub record AreTimes (t : Times) : Type 0 where
  pub traction : t.traction ≤ most_time
  pub berem : t.berem ≤ most_time
  pub bs : t.bs ≤ most_time
  pub indication : t.indication ≤ most_time

-- a build-up with V_delta1 and V_delta2, the gains of speed until the traction is cut off and after that (SUBSET-026-3
-- 3.13.9.3.2). No part is too great: the speed is at most 500 km/h and an under-reading of 10,000 mm/s (ranges own)
pub record IsBuildUp (b : BuildUp) (v_delta1 v_delta2 : ℕ) : Type 0 where
  pub speed : b.speed ≤ notches top_kmh + notches_of_mm_s 10_000
  pub accel1 : b.accel1 ≤ 300
  pub accel2 : b.accel2 ≤ 40
  pub traction : b.traction ≤ most_time
  pub berem : b.berem ≤ most_time
  pub first : v_delta1 ≡ 54 * b.accel1 * b.traction
  pub second : v_delta2 ≡ 54 * b.accel2 * b.berem

-- a place lies within so many grains of the origin
abbrev pub IsNearZero : ℕ → ℤ → Type 0
IsNearZero grains z = (neg_ℤ (pos grains) ≤ℤ z) × (z ≤ℤ pos grains)

-- no place that limits are found from is further from the origin, in grains: about 1,850 km
abbrev pub reach : ℕ
reach = 10 ^ 18

-- no place of a brake curve is further from the origin, in grains: about 1,670 km
abbrev pub curve_reach : ℕ
curve_reach = 9 * 10 ^ 17

-- a place of a guidance curve, if there is one, is not too far
abbrev pub IsGuide : Option Bound → Type 0
IsGuide guide = ForSome guide (λ g. IsNearZero reach g.at)
