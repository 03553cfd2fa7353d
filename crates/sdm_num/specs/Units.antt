-- The units of the program (own). Speeds are in notches, 1/54000 m/s; times in tenths of a second, ds; places in
-- grains. At one notch a train goes 10^6 grains in a ds. So every formula of the profile has whole numbers only.
use Rattle.std.specs.Prelude.{ℕ, ℤ, pos, negsuc, ◌*◌, ◌≤ℤ◌, ◌*ℤ◌}

-- grains of a millimetre
abbrev pub millimetre : ℕ
millimetre = 540_000_000

-- grains of a centimetre, the length of a cell
abbrev pub centimetre : ℕ
centimetre = 5_400_000_000

-- the place in grains of a place in mm
abbrev pub place_of_mm : ℤ → ℤ
place_of_mm mm = mm *ℤ pos millimetre

-- a whole speed in km/h, in notches
abbrev pub notches : ℕ → ℕ
notches kmh = 15_000 * kmh

-- the greatest speed of a train, a target or a speed profile, in km/h
abbrev pub top_kmh : ℕ
top_kmh = 500

-- a whole speed in mm/s, in notches
abbrev pub notches_of_mm_s : ℕ → ℕ
notches_of_mm_s v = 54 * v

-- the distance in grains at a speed of `v` notches in a time in ds
abbrev pub distance_at : ℕ → ℕ → ℕ
distance_at v time = 1_000_000 * v * time

-- a place that fits: within 4 * 10^18 grains, about 7,400 km
abbrev pub IsPlace : ℤ → Type 0
IsPlace z = (negsuc 3_999_999_999_999_999_999 ≤ℤ z) × (z ≤ℤ pos 4_000_000_000_000_000_000)

-- the greatest speed that fits, in notches: about 370 m/s
abbrev pub top_speed : ℕ
top_speed = 20_000_000
