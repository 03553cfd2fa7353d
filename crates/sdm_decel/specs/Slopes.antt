-- The slopes of a kind as they are listed, and the first fault of those that are not accepted (own).
use Rattle.std.specs.Prelude.{◌≡◌, ℕ, ℤ, pos, List, map, All, unsigned_abs, ◌^◌, ◌-ℤ◌, ◌*ℤ◌, ◌≤◌, ⊤}
use Rattle.std.specs.List.{flat_map}
use Rattle.sdm_rules.specs.declared.data.Band.{Band}
use Rattle.sdm_rules.specs.declared.data.NationalFields.{NationalFields}
use Rattle.sdm_rules.specs.declared.data.SlopeKind.{SlopeKind}
use Rattle.sdm_rules.specs.declared.data.SlopeKind.TheVariants.{Safe, Expected, Normal}
use Rattle.sdm_rules.specs.Data.{TrainData, TrackData, TrainAndTrack}
use Rattle.sdm_rules.specs.Decelerations.{UnderTrain, cm_s2, brake_under, kn_term, slope_under, under_train, uppers_of}
use Rattle.sdm_rules.specs.Opening.{IsNthFrom1, IsFirstWeak, IsFirstVaried}
use Rattle.sdm_train.specs.Trains.{IsTrain}
use Rattle.sdm_decel.specs.StretchCells.{AreStretches}
use Rattle.sdm_curve.specs.declared.faults.CurveFault.{CurveFault}
use Rattle.sdm_curve.specs.declared.faults.CurveFault.TheVariants.{TooWeak, TooVaried, Memory}

-- what the brakes give, in 1/(2 * 10^9) m/s² (SUBSET-026-3 3.13.6.2, 3.13.6.3, 3.13.6.4)
abbrev pub brake_of : SlopeKind → NationalFields → UnderTrain → Band → ℤ
brake_of Safe n u b = brake_under n u b
brake_of Expected n u b = cm_s2 *ℤ b.service
brake_of Normal n u b = cm_s2 *ℤ b.normal -ℤ kn_term b u.grad

-- the data of a journey (SUBSET-026-3 3.13.2)
abbrev pub train_and_track_from : TrainData → NationalFields → TrackData → TrainAndTrack
train_and_track_from train national track = record { train = train; national = national; track = track }

-- the slopes of the bands, one for each of the tracks under the train, all those of the first band first
abbrev pub slopes_of_bands : SlopeKind → TrainData → NationalFields → List UnderTrain → List Band → List ℤ
slopes_of_bands kind train national unders bands =
    flat_map (λ b. map (λ u. slope_under kind train national u b) unders) bands

-- what the map of a kind is made of: upper speeds, first cells of the stretches, and slopes within 10^15 of 0
pub record AreParts (kind : SlopeKind) (d : TrainAndTrack) (uppers : List ℕ) (starts slopes : List ℤ) : Type 0 where
  pub train : IsTrain d.train
  pub uppers_are : uppers ≡ uppers_of d.train.bands
  pub stretches : AreStretches d.track d.train.length_cm starts
  pub slopes_are : slopes
      ≡ slopes_of_bands kind d.train d.national (map (under_train d.track d.train.length_cm) starts) d.train.bands
  pub small : All (λ z. unsigned_abs z ≤ 10 ^ 15) slopes

-- the first fault of the slopes of a kind, over all cells from 0 on; want of memory may come at any time
abbrev pub IsFaultOfKind : SlopeKind → TrainAndTrack → CurveFault → Type 0
IsFaultOfKind kind d (TooWeak band cell slope) =
    IsNthFrom1 band (λ b. (c : ℕ) × (cell ≡ pos c) × IsFirstWeak kind d b c slope)
IsFaultOfKind kind d (TooVaried band least greatest) = IsNthFrom1 band (λ b. IsFirstVaried kind d b least greatest)
IsFaultOfKind kind d Memory = ⊤
