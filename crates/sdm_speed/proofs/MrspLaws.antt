-- The MRSP of a profile is that of the definition, and limits within their range give an MRSP within it.
use Rattle.std.proofs.Common.{◌≡◌, ℕ, zero, suc, ℤ, pos, List, [], ◌∷◌, ◌++◌, map, Bool, true, false, if◌then◌else◌}
use Rattle.std.proofs.Common.{All, min, ◌+ℤ◌, arith}
use Rattle.std.specs.Prelude.{unsigned_abs}
use Rattle.std.specs.FinMap as finite
use Rattle.sdm_rules.specs.Cells.{lowest}
use Rattle.sdm_rules.specs.Data.{TrainData, TrackData}
use Rattle.sdm_rules.specs.Profile.{Zone, covers, lowest_limit, zones_of_track, zone_of, mrsp}
use Rattle.sdm_speed.specs.Zones.{IsLimit, IsZone}
use Rattle.sdm_speed.specs.Profiles.{ProfileData, mrsp_of}

-- the MRSP of a profile is that of a train and a track with its data
pub mrsp_is : (p : ProfileData) (train : TrainData) (track : TrackData) → unsigned_abs train.max_speed ≡ p.max_speed →
    train.length_cm ≡ p.length_cm → track.speeds ≡ p.speeds →
    mrsp train track (finite.values p.restrictions) ≡ mrsp_of p
unfolding mrsp
mrsp_is p train track top length speeds = λ k cell. lowest_limit (top k) cell
    (zones_of_track (length k) (speeds k) ++ map (zone_of (length k)) (finite.values p.restrictions))

-- ---- ranges

-- a limit that is capped by another, or isn't, is a limit
capped_in_range : (b : Bool) (limit n : ℕ) → IsLimit limit → IsLimit n → IsLimit (if b then min limit n else n)
capped_in_range true limit n h k = record {
  least = omega (arith, h.least, k.least);
  greatest = omega (arith, h.greatest, k.greatest);
}
capped_in_range false limit n h k = k

-- the lowest limit of zones in their ranges is a limit
pub limit_in_range : (top : ℕ) (cell : ℤ) (zs : List Zone) → IsLimit top → All IsZone zs →
    IsLimit (lowest_limit top cell zs)
limit_in_range top cell [] h each = h
limit_in_range top cell (z ∷ zs) h each =
    capped_in_range (covers cell z) z.limit (lowest_limit top cell zs) (each 0 z (omega arith)).limited
    (limit_in_range top cell zs h (λ k d l. each (suc k) d (omega arith)))

-- the lowest of limits is a limit
pub lowest_in_range : (f : ℤ → ℕ) (from : ℤ) (n : ℕ) → ((cell : ℤ) → IsLimit (f cell)) → IsLimit (lowest min f from n)
lowest_in_range f from zero each = each from
lowest_in_range f from (suc n) each = capped_in_range true (f from) (lowest min f (from +ℤ pos 1) n) (each from)
    (lowest_in_range f (from +ℤ pos 1) n each)
