-- The release speed that is kept is the one that the definitions monitor.
use Rattle.std.proofs.Common.{◌≡◌, ℕ, ℤ, Option, Some, None, ◌≤◌, if◌then◌else◌, refl, arith}
use Rattle.std.specs.Prelude.{IfSome}
use Rattle.std.proofs.lemmas.Bool.{cond_both, lt-ltb}
use Rattle.sdm_rules.specs.declared.authorities.Authority.{Authority}
use Rattle.sdm_rules.specs.declared.authorities.Authority.TheVariants.{Stop, Limit}
use Rattle.sdm_rules.specs.Data.{TrainAndTrack}
use Rattle.sdm_rules.specs.Supervision.{release_of}
use Rattle.sdm_rules.specs.Triggers.{is_past}
use Rattle.sdm_rules.specs.Ranges.{top_kmh}
use Rattle.sdm_limits.specs.Sides.{place_of}
use Rattle.sdm_braking.specs.declared.releases.Release.{Release}
use Rattle.sdm_braking.specs.Releases.{IsReleaseOf}

-- the release speed that is kept, in km/h, where a max safe front end is past the start of its monitoring
-- (SUBSET-026-3 3.13.10.5)
abbrev pub release_speed_at : Option Release → ℤ → Option ℕ
release_speed_at None front = None
release_speed_at (Some release) front =
    if is_past 0 front (place_of release.start) then Some release.speed_kmh else None

-- the release speed that is kept is monitored where the definitions say
pub release_speed_at_is : (d : TrainAndTrack) (a : Authority) (kept : Option Release) (front : ℤ) →
    IsReleaseOf d a kept → release_speed_at kept front ≡ release_of d a front
release_speed_at_is d (Stop eoa svl speed) (Some release) front is =
    rw (lt-ltb 0 speed is.some, ← is.start, is.speed) refl
release_speed_at_is d (Stop eoa svl speed) None front is = rw is refl
release_speed_at_is d (Limit loa speed) (Some release) front is = absurd is
release_speed_at_is d (Limit loa speed) None front is = refl

-- it is at most 500 km/h
pub release_speed_in_range : (d : TrainAndTrack) (a : Authority) (kept : Option Release) (front : ℤ) →
    IsReleaseOf d a kept → IfSome (release_speed_at kept front) (λ kmh. kmh ≤ top_kmh)
release_speed_in_range d (Stop eoa svl speed) (Some release) front is =
    cond_both (is_past 0 front (place_of release.start)) (Some release.speed_kmh) None
    (λ kmh. IfSome kmh (λ n. n ≤ top_kmh)) (λ _. omega (arith, is.speed, is.range)) (λ _. tt)
release_speed_in_range d (Stop eoa svl speed) None front is = tt
release_speed_in_range d (Limit loa speed) (Some release) front is = absurd is
release_speed_in_range d (Limit loa speed) None front is = tt
