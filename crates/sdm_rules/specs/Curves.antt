-- Where a brake curve has a square of speed (SUBSET-026-3 3.13.8.3 to 3.13.8.5; own form). A curve enters each
-- speed band at a corner: the foot's own band at the foot, any other where it crosses the border towards the foot. In a
-- band all its places lie on one arc through the corner; along an arc, cell by cell,
--     5 * 10^12 * q * (change of the squared speed) = 27 * slope * distance
-- with squares in squared notches and the distance in grains. Below its foot speed a curve runs on past the foot (own).
-- For a scale `s`, places are in 1/s grain and squares in 1/s squared notch; the curves of the train have s = 1.
use Rattle.std.specs.Prelude.{ℕ, zero, suc, ℤ, unsigned_abs, pos, neg_ℤ, List, [], ◌∷◌, ◌+◌, ◌-◌, ◌*◌, ◌+ℤ◌, ◌*ℤ◌}
use Rattle.std.specs.Prelude.{nat_le, nat_lt, slice_index, if◌then◌else◌}
use Rattle.std.specs.Int.{int_div_euclid}
use Rattle.sdm_num.specs.Fractions.{Fraction, floor, whole}
use Rattle.sdm_num.specs.Units.{centimetre}
use Rattle.sdm_rules.specs.Slopes.{Slopes}

-- the cell that holds the step from `p` to `p + 1`, where a grain has `m` such steps (own)
abbrev pub cell_at : ℕ → ℤ → ℤ
cell_at m p = int_div_euclid p (pos (m * centimetre))

-- the place where a cell begins, in such steps (own)
abbrev pub cell_start : ℕ → ℤ → ℤ
cell_start m cell = pos (m * centimetre) *ℤ cell

-- Back from a place through the cells before it, in one band, until the energy is used up: an arc in each cell, with
-- 27 * slope * distance = energy. The energy counts for each of the fraction's parts of a grain. Each whole cell uses
-- up at least 1, so `fuel`, which bounds the arcs, is the energy (own).
unfoldable pub back : Slopes → ℕ → ℕ → ℕ → Fraction → ℕ → Fraction
back slopes scale band zero place energy = place
back slopes scale band (suc fuel) place energy =
    let cell = cell_at (scale * place.m) (place.n +ℤ neg_ℤ (pos 1)) in
    let rate = 27 * slopes.slope band cell in
    let distance = unsigned_abs (place.n +ℤ neg_ℤ (cell_start (scale * place.m) cell)) in
    let next = back slopes scale band fuel (record { n = cell_start (scale * place.m) cell; m = place.m })
    (energy - rate * distance) in
    if nat_le energy (rate * distance)
    then record { n = pos rate *ℤ place.n +ℤ neg_ℤ (pos energy); m = rate * place.m } else next

-- the energy of a change of the square by `change`, for each part of a grain (own unit)
abbrev pub grain_energy : Slopes → ℕ → ℕ
grain_energy slopes change = 5_000_000_000_000 * slopes.q * change

-- the place where the square is greater by `change`, back from a place in one band (own)
unfoldable pub arc_back : Slopes → ℕ → ℕ → Fraction → ℕ → Fraction
arc_back slopes scale band place change =
    back slopes scale band (place.m * grain_energy slopes change) place (place.m * grain_energy slopes change)

-- a place mirrored at place 0 (own)
abbrev pub turned : Fraction → Fraction
turned x = record { n = neg_ℤ x.n; m = x.m }

-- slopes mirrored at place 0: cell 0 becomes cell -1, and ahead becomes back (own)
abbrev pub turned_slopes : Slopes → Slopes
turned_slopes slopes = record {
  q = slopes.q;
  uppers = slopes.uppers;
  slope = λ band cell. slopes.slope band (neg_ℤ (cell +ℤ pos 1));
}

-- The place of the square `to` on the arc in one band through a place with the square `from`: a greater square lies
-- back, a lesser one ahead, which is back once all is mirrored at place 0 (own).
unfoldable pub arc : Slopes → ℕ → ℕ → Fraction → ℕ → ℕ → Fraction
arc slopes scale band place from to =
    let behind = arc_back slopes scale band place (to - from) in
    let ahead = turned (arc_back (turned_slopes slopes) scale band (turned place) (from - to)) in
    if nat_le from to then behind else ahead

-- ---- corners

-- the square at the upper speed of a band, where two bands meet (own)
abbrev pub upper_square : Slopes → ℕ → ℕ → ℕ
upper_square slopes scale band = scale * (slice_index slopes.uppers band * slice_index slopes.uppers band)

-- the band of a square, by the bands' upper speeds: the first band whose upper square is not below it, else the last
-- (own)
abbrev pub band_of_square : ℕ → List ℕ → ℕ → ℕ
band_of_square scale [] square = 0
band_of_square scale (upper ∷ uppers) square =
    if nat_lt (scale * (upper * upper)) square then suc (band_of_square scale uppers square) else 0

-- where a curve enters a band: a place with its square (own)
pub record Corner : Type 0 where
  pub place : Fraction
  pub square : ℕ

-- The corner of a band that lies `n` bands from the foot's band `own`, whose corner is the foot. Any other lies on the
-- arc of the next band towards `own`, where this has the square of the border between both; `round` is applied to its
-- place (own).
unfoldable pub corner : (Fraction → Fraction) → Slopes → ℕ → Corner → ℕ → ℕ → ℕ → Corner
corner round slopes scale foot own zero band = foot
corner round slopes scale foot own (suc n) band =
    let next = if nat_lt band own then suc band else band - 1 in
    let border = upper_square slopes scale (if nat_lt band own then band else band - 1) in
    let from = corner round slopes scale foot own n next in
    record { place = round (arc slopes scale next from.place from.square border); square = border }

-- the place where the curve from a foot, in grains, with a foot speed, in notches, has a square of speed: on the arc of
-- the square's band through the band's corner; `round` is applied to it (SUBSET-026-3 3.13.8.3 to 3.13.8.5; own form)
unfoldable pub place_at : (Fraction → Fraction) → Slopes → ℕ → ℤ → ℕ → ℕ → Fraction
place_at round slopes scale foot foot_speed square =
    let start : Corner = record { place = whole (pos scale *ℤ foot); square = scale * (foot_speed * foot_speed) } in
    let own = band_of_square scale slopes.uppers start.square in
    let band = band_of_square scale slopes.uppers square in
    let from = corner round slopes scale start own ((own - band) + (band - own)) band in
    round (arc slopes scale band from.place from.square square)

-- a place that is not rounded (own)
abbrev pub as_is : Fraction → Fraction
as_is x = x

-- a place rounded down to a whole grain (own)
abbrev pub to_grain : Fraction → Fraction
to_grain x = whole (floor x)

-- the exact place of a square of speed on a curve, at a scale (own)
unfoldable pub exact_at : Slopes → ℕ → ℤ → ℕ → ℕ → Fraction
exact_at slopes scale foot foot_speed square = place_at as_is slopes scale foot foot_speed square

-- the exact place, in grains, of a speed in notches on a curve (SUBSET-026-3 3.13.8.3 to 3.13.8.5; own form)
unfoldable pub exact : Slopes → ℤ → ℕ → ℕ → Fraction
exact slopes foot foot_speed speed = exact_at slopes 1 foot foot_speed (speed * speed)

-- the stepped place, in grains, of a speed in notches on a curve: each corner but the foot is rounded down to a grain,
-- and so is the place itself (own)
unfoldable pub stepped : Slopes → ℤ → ℕ → ℕ → ℤ
stepped slopes foot foot_speed speed = floor (place_at to_grain slopes 1 foot foot_speed (speed * speed))

-- how early in grains a stepped place can be after `n` bands, from one that is `e` early: each band multiplies by at
-- most the variation `k` of its slopes, and rounding adds less than a grain (own)
abbrev pub slack_after : ℕ → ℕ → ℕ → ℕ
slack_after k zero e = e
slack_after k (suc n) e = slack_after k n (k * e + 1)

-- the most grains that a stepped place lies before the exact one: (16^8 - 1) / 15 with eight bands, which is less
-- than a millimetre; with other counts it is less (own)
abbrev pub most_slack : ℕ
most_slack = 286_331_153
