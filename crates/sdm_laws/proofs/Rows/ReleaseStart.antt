-- The start of release speed monitoring: the computed one lies just before the exact one, as the lesser of two such
-- places.
use Rattle.std.proofs.Common.{◌≡◌, ℕ, ◌<◌, pos, Bool, true, false, ◌&&◌, nat_lt, Option, Some, None, refl, sym, ap, ◌∙◌}
use Rattle.std.proofs.lemmas.Bool.{lt-ltb, false≢true, and_parts, and_from}
use Rattle.std.specs.Prelude.{is_some, if◌then◌else◌}
use Rattle.sdm_rules.specs.declared.data.SlopeKind.TheVariants.{Safe, Expected}
use Rattle.sdm_rules.specs.declared.authorities.Authority.{Authority}
use Rattle.sdm_rules.specs.declared.authorities.Authority.TheVariants.{Stop}
use Rattle.sdm_rules.specs.declared.commands.State.TheVariants.{C, T, R}
use Rattle.sdm_rules.specs.Data.{TrainAndTrack}
use Rattle.sdm_num.specs.Units.{notches}
use Rattle.sdm_num.specs.Readings.{OdometerReading, estimate_of}
use Rattle.sdm_rules.specs.Decelerations.{slopes_of}
use Rattle.sdm_rules.specs.Cells.{place_of_cell}
use Rattle.sdm_rules.specs.Limits.{computed, exact_places, release_start, limits_of}
use Rattle.sdm_rules.specs.Triggers.{is_past, is_indicated}
use Rattle.sdm_rules.specs.Supervision.{Supervision, situation_of, release_of, row_in, state_in}
use Rattle.sdm_rules.specs.Machines.{BeginsReleaseMonitoringAt}
use Rattle.sdm_laws.specs.SupervisionLaws.{IsJustBefore}
use Rattle.sdm_laws.proofs.Rows.Nearness.{less_near, lesser_near, exact_sooner, low_sooner}
use Rattle.sdm_laws.proofs.BrakeCurves.CurveNearness.{near_on}
use Rattle.sdm_laws.proofs.Rows.MachineOrder.{AreUsable}

-- the computed start lies just before the exact one
pub start_near : (d : TrainAndTrack) → AreUsable d → (eoa svl release : ℕ) →
    IsJustBefore (release_start computed d eoa svl release) (release_start exact_places d eoa svl release)
unfolding release_start
start_near d near eoa svl release =
    lesser_near _ _ _ _
    (less_near _ _ _ (near_on (slopes_of Expected d) (near Expected) (place_of_cell (pos eoa)) 0 (notches release)))
    (less_near _ _ _ (near_on (slopes_of Safe d) (near Safe) (place_of_cell (pos svl)) 0 (notches release)))

-- the state by the release speed
state_by : (o : Option ℕ) (b : Bool) → is_some o ≡ true → (if is_some o then R else if b then T else C) ≡ R
state_by (Some x) b e = refl
state_by None b e = absurd (false≢true e)

-- the state is release speed monitoring only where there is a release speed
state_only : (o : Option ℕ) (b : Bool) → (if is_some o then R else if b then T else C) ≡ R → is_some o ≡ true
state_only (Some x) b e = refl
state_only None true e = absurd (cc)
state_only None false e = absurd (cc)

some_if : (b : Bool) (x : ℕ) → is_some (if b then Some x else None) ≡ b
some_if true x = refl
some_if false x = refl

-- under an end of authority with a release speed, its monitoring begins at its exact start or just before it
pub begins_release_monitoring_at : (s : Supervision) (r : OdometerReading) (eoa svl release : ℕ) →
    AreUsable s.train_and_track → s.authority ≡ Stop eoa svl release → 0 < release →
    BeginsReleaseMonitoringAt s r eoa svl release
unfolding row_in state_in situation_of
begins_release_monitoring_at s r eoa svl release near e some =
    let low = release_start computed s.train_and_track eoa svl release in
    let exact = release_start exact_places s.train_and_track eoa svl release in
    let n = start_near s.train_and_track near eoa svl release in
    let b = is_indicated (limits_of computed s.train_and_track (estimate_of r)) (situation_of s r) in
    let is = ap (λ (a : Authority). is_some (release_of s.train_and_track a r.max)) e ∙ some_if
    (nat_lt 0 release && is_past 0 r.max low) release in
    record {
      always = λ past. state_by (release_of s.train_and_track s.authority r.max) b
          (is ∙ and_from _ _ (lt-ltb 0 release some) ((exact_sooner low exact n).passed r.max past));
      only = λ state. (low_sooner low exact n).passed r.max (and_parts (nat_lt 0 release) (is_past 0 r.max low)
          (sym is ∙ state_only (release_of s.train_and_track s.authority r.max) b state)).1;
    }
