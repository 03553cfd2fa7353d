-- What is kept of release speed monitoring (own).
use Rattle.std.specs.Prelude.{◌≡◌, ℕ, Option, Some, None, ⊤, ◌<◌, ◌≤◌}
use Rattle.sdm_rules.specs.declared.authorities.Authority.{Authority}
use Rattle.sdm_rules.specs.declared.authorities.Authority.TheVariants.{Stop, Limit}
use Rattle.sdm_rules.specs.Data.{TrainAndTrack}
use Rattle.sdm_rules.specs.Limits.{computed, release_start}
use Rattle.sdm_rules.specs.Ranges.{top_kmh}
use Rattle.sdm_limits.specs.Sides.{place_of}
use Rattle.sdm_braking.specs.declared.releases.Release.{Release}

-- what is kept of a release speed in km/h: the speed, and the computed start of its monitoring (SUBSET-026-3 3.13.9.4;
-- range own)
pub record IsStartOf (d : TrainAndTrack) (eoa svl speed_kmh : ℕ) (release : Release) : Type 0 where
  pub speed : release.speed_kmh ≡ speed_kmh
  pub some : 0 < speed_kmh
  pub range : speed_kmh ≤ top_kmh
  pub start : place_of release.start ≡ release_start computed d eoa svl speed_kmh

-- what is kept of an authority's release speed; none where the authority has no release speed (SUBSET-026-3 3.13.9.4;
-- own)
abbrev pub IsReleaseOf : TrainAndTrack → Authority → Option Release → Type 0
IsReleaseOf d (Stop eoa svl speed) (Some release) = IsStartOf d eoa svl speed release
IsReleaseOf d (Stop eoa svl speed) None = speed ≡ 0
IsReleaseOf d (Limit loa speed) (Some release) = ⊥
IsReleaseOf d (Limit loa speed) None = ⊤
