-- A supervisor keeps the SvL of its authority with its curves, and the start of release speed monitoring: by these a
-- reading is within the SvL where the definitions say.
use Rattle.std.proofs.Common.{◌≡◌, ℕ, ℤ, Bool, Option, Some, None, true, false, not, is_some, refl, ap, sym, ◌∙◌}
use Rattle.std.proofs.Common.{◌<ℤ◌, if◌then◌else◌}
use Rattle.std.specs.Prelude.{IsTrue, ◌↔◌}
use Rattle.std.specs.Option.{option_map_or}
use Rattle.sdm_num.specs.Readings.{Estimate, OdometerReading, estimate_of}
use Rattle.sdm_rules.specs.declared.authorities.Authority.{Authority}
use Rattle.sdm_rules.specs.declared.authorities.Authority.TheVariants.{Stop, Limit}
use Rattle.sdm_rules.specs.declared.targets.Target.{Target}
use Rattle.sdm_rules.specs.Data.{TrainAndTrack}
use Rattle.sdm_rules.specs.Limits.{computed, limits_of}
use Rattle.sdm_rules.specs.Supervision.{Supervision, release_of}
use Rattle.sdm_rules.specs.Targets.{svl_target}
use Rattle.sdm_rules.specs.Triggers.{is_past}
use Rattle.sdm_rules.specs.Within.{is_before_svl, is_within, is_within_svl}
use Rattle.sdm_braking.specs.declared.kept_ends.KeptEnd.TheVariants.{Stop as KeptStop, Limit as KeptLimit}
use Rattle.sdm_braking.specs.declared.kept_targets.KeptTarget.{KeptTarget}
use Rattle.sdm_braking.specs.declared.releases.Release.{Release}
use Rattle.sdm_braking.specs.KeptCurves.{IsKeptAt, IsKeptEnd}
use Rattle.sdm_braking.specs.Releases.{IsReleaseOf}
use Rattle.sdm_braking.proofs.ReleaseLaws.{release_speed_at, release_speed_at_is}
use Rattle.sdm_limits.proofs.Passed.{past_of}

-- what is found of a kept SvL by the estimate of a reading; an SvL has an EBI, so nothing hangs on one without
pub before_svl : (d : TrainAndTrack) (r : OdometerReading) (e : Estimate) (t : Target) (cm : ℕ) (front : ℤ)
    (before : Bool) →
    before ≡ option_map_or (λ ebi. not (is_past 0 front ebi)) (limits_of computed d e t).ebi true → front ≡ r.max →
    e ≡ estimate_of r → t ≡ svl_target cm → before ≡ is_before_svl d r cm
unfolding limits_of
before_svl d r e t cm front before is at_max of_reading at =
    is ∙ (λ k. option_map_or (λ ebi. not (is_past 0 (at_max k) ebi))
    (limits_of computed d (of_reading k) (at k)).ebi true)

-- the release speed that is kept counts where a front end is past the start of its monitoring
pub released_at : (kept : Option Release) (release : Release) (front : ℤ) (passed : Bool) → kept ≡ Some release →
    (IsTrue passed ↔ (release.start.at <ℤ front)) →
    (if passed then Some release.speed_kmh else None) ≡ release_speed_at kept front
released_at kept release front passed some is =
    (λ k. if past_of is refl refl k then Some release.speed_kmh else None)
    ∙ sym (ap (λ x. release_speed_at x front) some)

-- and it is monitored there
pub begun_at : (kept : Option Release) (release : Release) (front : ℤ) (passed : Bool) → kept ≡ Some release →
    (IsTrue passed ↔ (release.start.at <ℤ front)) → passed ≡ is_some (release_speed_at kept front)
begun_at kept release front passed some is =
    where_some passed ∙ ap is_some (released_at kept release front passed some is)
  where
    where_some : (b : Bool) → b ≡ is_some (if b then Some release.speed_kmh else None)
    where_some true = refl
    where_some false = refl

-- so the release speed that is kept is monitored where the definitions say
pub monitored : (d : TrainAndTrack) (a : Authority) (kept : Option Release) (front at : ℤ) (is : Bool) →
    IsReleaseOf d a kept → is ≡ is_some (release_speed_at kept at) → at ≡ front → is ≡ is_some (release_of d a front)
monitored d a kept front at is of_kept found at_front =
    found ∙ ap is_some (release_speed_at_is d a kept at of_kept ∙ ap (release_of d a) at_front)

-- no reading is within the end of an authority that isn't a stop
pub not_of_limit : (d : TrainAndTrack) (r : OdometerReading) (a : Authority) (loa : KeptTarget) →
    IsKeptEnd d a (KeptLimit loa) → false ≡ is_within d r a
not_of_limit d r (Stop eoa svl release) loa kept = absurd kept
not_of_limit d r (Limit at speed) loa kept = refl

-- nor one in release speed monitoring
pub not_in_release : (d : TrainAndTrack) (r : OdometerReading) (a : Authority) (eoa svl : KeptTarget) →
    IsKeptEnd d a (KeptStop eoa svl) → is_some (release_of d a r.max) ≡ true → false ≡ is_within d r a
not_in_release d r (Stop eoa svl release) k l kept release_is = rw release_is refl
not_in_release d r (Limit at speed) k l kept release_is = absurd kept

-- else the front end is compared with the EBI of the SvL
pub by_front : (d : TrainAndTrack) (r : OdometerReading) (a : Authority) (eoa svl : KeptTarget) (before : Bool) →
    IsKeptEnd d a (KeptStop eoa svl) → is_some (release_of d a r.max) ≡ false →
    ((cm : ℕ) → IsKeptAt d (svl_target cm) svl → before ≡ is_before_svl d r cm) → before ≡ is_within d r a
by_front d r (Stop eoa svl release) k l before kept release_is found = rw release_is (found svl kept.1)
by_front d r (Limit at speed) k l before kept release_is found = absurd kept

-- so a supervision state whose authority isn't a stop has no reading within the SvL
pub never_within : (s : Supervision) (r : OdometerReading) (loa speed : ℕ) → s.authority ≡ Limit loa speed →
    is_within_svl s r ≡ false
unfolding is_within_svl
never_within s r loa speed is = rw is refl
