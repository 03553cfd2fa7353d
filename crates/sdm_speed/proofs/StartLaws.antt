-- A zone that covers a cell and does not begin there covers the cell before it too; each begins on the track, if it has
-- a beginning.
use Rattle.std.proofs.Common.{◌≡◌, suc, ℤ, pos, List, [], ◌∷◌, Option, Some, None, Bool, true, false, ◌||◌, int_le}
use Rattle.std.proofs.Common.{int_lt, ◌-ℤ◌, ◌≤ℤ◌, ◌<ℤ◌, refl, sym, ap, ◌∙◌, arith, All}
use Rattle.std.specs.List.{list_any}
use Rattle.std.specs.Option.{option_map_or}
use Rattle.std.specs.Ordering.{int_eq}
use Rattle.std.proofs.lemmas.Int.{ints, by_lt_z}
use Rattle.std.proofs.lemmas.Bool.{true≢false, and_from, and_parts}
use Rattle.std.proofs.lemmas.Bool.Decides.{Decides-int_eq}
use Rattle.sdm_num.proofs.Comparisons.{le_is, le_of, lt_is, lt_of}
use Rattle.sdm_rules.specs.Profile.{Zone, covers}
use Rattle.sdm_rules.specs.Ranges.{longest_track}
use Rattle.sdm_speed.specs.Zones.{IsZone}

-- the zone begins at the cell
abbrev pub starts_at : ℤ → Zone → Bool
starts_at cell z = option_map_or (int_eq cell) z.first false

-- one of the zones begins at the cell
abbrev pub has_start : List Zone → ℤ → Bool
has_start zones cell = list_any (starts_at cell) zones

-- ---- tests

eq_is : (a b : ℤ) → a ≡ b → int_eq a b ≡ true
eq_is a b e = (Decides-int_eq a b).1 e

eq_of : (a b : ℤ) → int_eq a b ≡ true → a ≡ b
eq_of a b t = (Decides-int_eq a b).0 t

-- ---- the cell before

-- a zone that has begun at a cell and doesn't begin there has begun at the cell before
begun_before : (first : Option ℤ) (c : ℤ) → option_map_or (int_eq c) first false ≡ false →
    option_map_or (λ f. int_le f c) first true ≡ true → option_map_or (λ f. int_le f (c -ℤ pos 1)) first true ≡ true
begun_before None c off on = refl
begun_before (Some f) c off on =
    let begun = le_of f c on in
    by_lt_z f c
    (λ (l : f <ℤ c). le_is f (c -ℤ pos 1) (omega (arith, ints)))
    (λ (m : c ≤ℤ f). absurd (true≢false (sym (eq_is c f (omega (arith, ints))) ∙ off)))

-- a zone that goes on at a cell goes on at the cell before
goes_on_before : (past : Option ℤ) (c : ℤ) → option_map_or (λ p. int_lt c p) past true ≡ true →
    option_map_or (λ p. int_lt (c -ℤ pos 1) p) past true ≡ true
goes_on_before None c on = refl
goes_on_before (Some p) c on = lt_is (c -ℤ pos 1) p (omega (arith, ints, lt_of c p on))

-- a zone that covers the cell and does not begin there
pub covers_before : (z : Zone) (c : ℤ) → starts_at c z ≡ false → covers c z ≡ true → covers (c -ℤ pos 1) z ≡ true
covers_before z c off on =
    and_from _ _ (begun_before z.first c off (and_parts _ _ on).0) (goes_on_before z.past c (and_parts _ _ on).1)

-- ---- on the track

-- a zone that begins at the cell has it as its first
start_is : (first : Option ℤ) (c : ℤ) → option_map_or (int_eq c) first false ≡ true → first ≡ Some c
start_is None c here = absurd cc
start_is (Some f) c here = ap Some (sym (eq_of c f here))

-- a start of one of the zones is that of the first, on the track, or of a later one
on_track_by : (z : Zone) (zs : List Zone) (c : ℤ) (b : Bool) → starts_at c z ≡ b → (b || has_start zs c) ≡ true →
    IsZone z → (has_start zs c ≡ true → (pos 0 ≤ℤ c) × (c <ℤ pos longest_track)) →
    (pos 0 ≤ℤ c) × (c <ℤ pos longest_track)
on_track_by z zs c true here either zone rest = let first =
    start_is z.first c here in (zone.not_before c first, zone.on_track c first)
on_track_by z zs c false here either zone rest = rest either

-- on the longest track
pub start_on_track : (zs : List Zone) (c : ℤ) → All IsZone zs → has_start zs c ≡ true →
    (pos 0 ≤ℤ c) × (c <ℤ pos longest_track)
start_on_track [] c each here = absurd cc
start_on_track (z ∷ zs) c each here = on_track_by z zs c (starts_at c z) refl here (each 0 z (omega arith))
    (start_on_track zs c (λ k d l. each (suc k) d (omega arith)))
