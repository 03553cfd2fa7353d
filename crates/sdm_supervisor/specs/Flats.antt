-- What the flat supervisor stores beside its state: the slope map and the curve that follow from its numbers (own).
use Rattle.std.specs.Prelude.{◌≡◌, ℕ, ℤ, pos, neg_ℤ, [], ◌∷◌, ◌*◌, ◌+ℤ◌, ◌≤◌}
use Rattle.std.specs.Int.{int_div_euclid}
use Rattle.sdm_rules.specs.Slopes.{SlopeMap, meaning_of}
use Rattle.sdm_rules.specs.Cells.{place_of_cell}
use Rattle.sdm_rules.specs.Ranges.{longest_track}
use Rattle.sdm_curve.specs.Made.{BrakeCurve, IsMadeFrom}

-- one band and one segment, for q = 100
abbrev pub flat_map : ℕ → SlopeMap
flat_map decel = record { q = 100; uppers = []; starts = pos 0 ∷ []; slopes = 2_000_000_000 * decel ∷ [] }

-- the map of a deceleration in cm/s², and the curve that ends at standstill at an end in cm, both in their ranges
pub record IsFlatCurve (decel end : ℕ) (map : SlopeMap) (curve : BrakeCurve) : Type 0 where
  pub low : 5 ≤ decel
  pub high : decel ≤ 400
  pub near : end ≤ longest_track
  pub map_is : map ≡ flat_map decel
  pub place_is : curve.place ≡ place_of_cell (pos end)
  pub speed_is : curve.speed ≡ 0
  pub made : IsMadeFrom (meaning_of map) curve

-- END - v² / (2A) in mm, rounded down, where A is in cm/s², END in cm and v in mm/s: 10 END - v² / (20 A)
abbrev pub ebi_mm : ℕ → ℕ → ℕ → ℤ
ebi_mm decel end v = int_div_euclid (pos (200 * decel * end) +ℤ neg_ℤ (pos (v * v))) (pos (20 * decel))
