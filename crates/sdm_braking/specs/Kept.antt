-- What is kept between records (own).
use Rattle.sdm_rules.specs.declared.authorities.Authority.{Authority}
use Rattle.sdm_rules.specs.Data.{TrainAndTrack}
use Rattle.sdm_speed.specs.Profiles.{ProfileData}
use Rattle.sdm_braking.specs.declared.kept.Kept.{Kept}
use Rattle.sdm_braking.specs.KeptCurves.{IsKeptEnd}
use Rattle.sdm_braking.specs.KeptFalls.{AreKeptFalls}
use Rattle.sdm_braking.specs.Releases.{IsReleaseOf}

-- what is kept for a train and track, a speed profile and an authority: the falls of the profile and the targets at
-- the end of the authority with their curves, and the release speed of the authority with the start of its monitoring
pub record IsKept (d : TrainAndTrack) (p : ProfileData) (a : Authority) (k : Kept) : Type 0 where
  pub falls : AreKeptFalls d p k.falls
  pub end : IsKeptEnd d a k.end.value
  pub release : IsReleaseOf d a k.release
