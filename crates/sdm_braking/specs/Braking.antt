-- The data of a journey beside the slope maps that they give (own).
use Rattle.std.specs.Prelude.{◌≡◌, Bool, ⊤}
use Rattle.sdm_rules.specs.declared.authorities.Authority.{Authority}
use Rattle.sdm_rules.specs.declared.data.SlopeKind.TheVariants.{Safe, Expected, Normal}
use Rattle.sdm_rules.specs.declared.data.Times.{Times}
use Rattle.sdm_rules.specs.declared.faults.OpenFault.{OpenFault}
use Rattle.sdm_rules.specs.declared.faults.OpenFault.TheVariants.{TooWeak, TooVaried, BadAuthority, Memory}
use Rattle.sdm_rules.specs.Slopes.{SlopeMap, meaning_of}
use Rattle.sdm_rules.specs.Data.{TrainAndTrack}
use Rattle.sdm_rules.specs.Decelerations.{slopes_of}
use Rattle.sdm_rules.specs.Reaction.{reaction_times, service_in_use}
use Rattle.sdm_rules.specs.Opening.{HasAcceptedSlopes, IsOpenFault}
use Rattle.sdm_train.specs.Trains.{IsTrain}
use Rattle.sdm_track.specs.Ranges.{IsTrack}
use Rattle.sdm_decel.specs.StretchCells.{AreStretches}
use Rattle.sdm_limits.specs.Ranges.{AreTimes}

-- data that supervision accepts: a train and a track within their ranges, and slopes of all kinds that curves can
-- stand on
pub record IsSupervisable (d : TrainAndTrack) : Type 0 where
  pub train : IsTrain d.train
  pub track : IsTrack d.track
  pub usable : HasAcceptedSlopes d

-- the slope maps, the use of the service brake and the times of reaction are those of the data; the segments of each
-- map are its stretches of track
pub record IsBrakingOf (d : TrainAndTrack) (safe expected normal : SlopeMap) (in_use : Bool)
    (times : Times) : Type 0 where
  pub safe_is : meaning_of safe ≡ slopes_of Safe d
  pub safe_stretches : AreStretches d.track d.train.length_cm safe.starts
  pub expected_stretches : AreStretches d.track d.train.length_cm expected.starts
  pub normal_stretches : AreStretches d.track d.train.length_cm normal.starts
  pub expected_is : meaning_of expected ≡ slopes_of Expected d
  pub normal_is : meaning_of normal ≡ slopes_of Normal d
  pub use_is : in_use ≡ service_in_use d
  pub times_are : times ≡ reaction_times d
  pub in_range : AreTimes times

-- the first fault of an opening; memory may be refused at any time
abbrev pub IsRefusal : TrainAndTrack → Authority → OpenFault → Type 0
IsRefusal d a (TooWeak kind band cell slope) = IsOpenFault d a (TooWeak kind band cell slope)
IsRefusal d a (TooVaried kind band least greatest) = IsOpenFault d a (TooVaried kind band least greatest)
IsRefusal d a (BadAuthority fault) = IsOpenFault d a (BadAuthority fault)
IsRefusal d a Memory = ⊤
