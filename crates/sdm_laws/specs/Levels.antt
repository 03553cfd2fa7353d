-- What a brake curve is by the physics alone: in a speed band the energy integral of its place and the energy of its
-- square add up to one level. No walk is spoken of, no direction and no corner. These are means of proof: no definition
-- of the profile cites them (own).
use Rattle.std.specs.Prelude.{◌≡◌, ℕ, zero, suc, ℤ, pos, negsuc, neg_ℤ, ◌*◌, ◌<◌, ◌+ℤ◌, ◌*ℤ◌, ◌≤ℤ◌, ◌<ℤ◌, length}
use Rattle.std.specs.Prelude.{slice_index, nat_lt, if◌then◌else◌}
use Rattle.sdm_num.specs.Fractions.{Fraction, IsSame, whole}
use Rattle.sdm_rules.specs.Slopes.{Slopes}
use Rattle.sdm_rules.specs.Curves.{grain_energy}
use Rattle.sdm_rules.specs.Motion.{IsInBand}
use Rattle.sdm_laws.specs.Energy.{energy}

-- the energy of the distance from place 0 to a place, where a grain has `m` steps; before place 0 it is below 0 (own
-- unit)
unfoldable pub integral_in : Slopes → ℕ → ℕ → ℤ → ℤ
integral_in on band m (pos n) = pos (27 * energy on band m (pos 0) n)
integral_in on band m (negsuc n) = neg_ℤ (pos (27 * energy on band m (negsuc n) (suc n)))

-- the same of a whole grain (own unit)
abbrev pub integral : Slopes → ℕ → ℤ → ℤ
integral on band place = integral_in on band 1 place

-- ---- exact curves

-- the level of a place with a square in a band: the integral of the place and the energy of the square (own unit)
abbrev pub exact_level : Slopes → ℕ → ℕ → Fraction → ℕ → Fraction
exact_level on s band x u = record { n = integral_in on band (s * x.m) x.n +ℤ pos (x.m * grain_energy on u); m = x.m }

-- an exact curve, which has each square at a place: it has its foot's square at the foot, and in each band one level
pub record IsExactCurve (on : Slopes) (s : ℕ) (f : ℤ) (w : ℕ) (place : ℕ → Fraction) : Type 0 where
  pub positive : (z : ℕ) → 0 < (place z).m
  pub foot : IsSame (place (s * (w * w))) (whole (pos s *ℤ f))
  pub level :
      (band z z' : ℕ) → IsInBand on s band z → IsInBand on s band z' →
      IsSame (exact_level on s band (place z) z) (exact_level on s band (place z') z')

-- ---- stepped curves

-- the last whole grain whose integral is at most the level
pub record IsLastAtMost (on : Slopes) (band : ℕ) (level place : ℤ) : Type 0 where
  pub low : integral on band place ≤ℤ level
  pub high : level <ℤ integral on band (place +ℤ pos 1)

-- the level of a whole grain with a speed in a band: the integral of the grain and the energy of the speed's square
-- (own unit)
abbrev pub level_of : Slopes → ℕ → ℤ → ℕ → ℤ
level_of on band place speed = integral on band place +ℤ pos (grain_energy on (speed * speed))

-- the lower speed of a band, in notches
abbrev pub lower_speed : Slopes → ℕ → ℕ
lower_speed on zero = 0
lower_speed on (suc band) = slice_index on.uppers band

-- the speed of a band, its borders included, that is nearest to the speed `w`, in notches
abbrev pub nearest : Slopes → ℕ → ℕ → ℕ
nearest on band w =
    let top = if nat_lt band (length on.uppers) then slice_index on.uppers band else w in
    let most = if nat_lt top w then top else w in
    if nat_lt most (lower_speed on band) then lower_speed on band else most

-- the level of a band's corner: of the curve's place at the speed of the band that is nearest to the foot speed `w`
abbrev pub corner_level : Slopes → ℕ → (ℕ → ℤ) → ℕ → ℤ
corner_level on w place band = level_of on band (place (nearest on band w)) (nearest on band w)

-- A stepped curve has each speed at a whole grain: its foot speed at the foot, and each speed of a band at the last
-- grain whose integral is at most the level of the band's corner without the energy of the speed's square.
pub record IsSteppedCurve (on : Slopes) (f : ℤ) (w : ℕ) (place : ℕ → ℤ) : Type 0 where
  pub foot : place w ≡ f
  pub level :
      (band v : ℕ) → IsInBand on 1 band (v * v) →
      IsLastAtMost on band (corner_level on w place band +ℤ neg_ℤ (pos (grain_energy on (v * v)))) (place v)
