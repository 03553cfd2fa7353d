-- The headline of one reading: an accepted state has usable slopes, from which the order of the machines and the stop
-- follow. No record changes the data, so a state stays accepted.
use Rattle.std.proofs.Common.{◌≡◌, ℕ, Option, Some, None, refl, arith}
use Rattle.std.specs.Prelude.{IfOk}
use Rattle.sdm_num.specs.Readings.{OdometerReading}
use Rattle.sdm_rules.specs.declared.authorities.Authority.{Authority}
use Rattle.sdm_rules.specs.declared.authorities.Authority.TheVariants.{Stop}
use Rattle.sdm_rules.specs.declared.restrictions.Restriction.{Restriction}
use Rattle.sdm_rules.specs.declared.faults.EventCause.{EventCause}
use Rattle.sdm_rules.specs.declared.records.Event.{Event}
use Rattle.sdm_rules.specs.declared.records.Event.TheVariants as record_kinds
use Rattle.sdm_rules.specs.Decelerations.{slopes_of}
use Rattle.sdm_rules.specs.Supervision.{Supervision, after_reading, after_authority, after_restriction}
use Rattle.sdm_rules.specs.Supervision.{after_revocation}
use Rattle.sdm_rules.specs.Records.{step, trip_fault, unless}
use Rattle.sdm_rules.specs.Release.{calculated}
use Rattle.sdm_rules.specs.Opening.{IsOpen}
use Rattle.sdm_laws.specs.SupervisionLaws.{IsKeptOpen, LawOfLimits, LawOfNearness, LawOfMachines, LawOfStop}
use Rattle.sdm_laws.specs.SupervisionLaws.{LawOfReleaseStart, LawOfSupervision}
use Rattle.sdm_laws.proofs.Openings.AcceptedSlopes.{accepted_usable}
use Rattle.sdm_laws.proofs.BrakeCurves.Slack.{rounding}
use Rattle.sdm_laws.proofs.Rows.MachineOrder.{AreUsable, keeps_order, limits_near}
use Rattle.sdm_laws.proofs.Rows.ReleaseStart.{begins_release_monitoring_at, start_near}
use Rattle.sdm_laws.proofs.Rows.Stops.{covered_is_safe}

-- the slopes of an accepted state are usable
pub open_usable : (s : Supervision) → IsOpen s → AreUsable s.train_and_track
open_usable s o = λ kind. accepted_usable kind s.train_and_track o.bands (o.usable kind)

-- each computed place of a curve lies at most the greatest slack before the exact one, and never past it
pub nearness : LawOfNearness
nearness kind d bands accepted f w v =
    (rounding (slopes_of kind d) f w v (accepted_usable kind d bands accepted)).early_at_most

-- each computed limit is early for its exact one, and so is the start of release speed monitoring
pub limits : LawOfLimits
limits s r o =
    let usable = open_usable s o in
    record {
      limits = λ t. limits_near s.train_and_track usable r t;
      release_start = start_near s.train_and_track usable;
      fine =
          omega arith;
    }

-- the three commands stay in order over a reading
pub machines : LawOfMachines
machines s r o = keeps_order s r (open_usable s o)

-- from a covered row each motion stops by the SvL and meets each speed target
pub stop : LawOfStop
stop s r o covered = covered_is_safe s r (open_usable s o) covered

-- release speed monitoring begins at its exact start or less than a millimetre before it
pub release : LawOfReleaseStart
release s r o = λ eoa svl speed is some. begins_release_monitoring_at s r eoa svl speed (open_usable s o) is some

-- the headline of one reading
pub supervision : LawOfSupervision
supervision s r o = record { order = machines s r o; safe = stop s r o }

-- ---- over each record

-- what holds of a state holds of it where no fault refuses it
if_unless : {F : Type 0} (P : Supervision → Type 0) (cause : F → EventCause) (o : Option F) (s : Supervision) → P s →
    IfOk (unless cause o s) P
if_unless P cause None s h = h
if_unless P cause (Some fault) s h = tt

if_accepted : {F : Type 0} (P : Supervision → Type 0) (cause : F → EventCause) (o : Option F) (s : Supervision) →
    (o ≡ None → P s) → IfOk (unless cause o s) P
if_accepted P cause None s h = h refl
if_accepted P cause (Some fault) s h = tt

-- what holds after each kind of record, where none is refused, holds after the record
pub over_kinds :
    (P : Event → Supervision → Type 0) (s : Supervision) →
    ((r : OdometerReading) → P (record_kinds.Read r) (after_reading s r)) →
    ((a : Authority) → P (record_kinds.Authority a) (after_authority s a)) →
    ((eoa svl trip : ℕ) → trip_fault s.train_and_track.track.length_cm eoa svl trip ≡ None →
    P (record_kinds.Calculated eoa svl trip)
    (after_authority s (Stop eoa svl (calculated s.train_and_track svl trip)))) →
    ((r : Restriction) → P (record_kinds.Restrict r) (after_restriction s r)) →
    ((id : ℕ) → P (record_kinds.Revoke id) (after_revocation s id)) →
    (e : Event) → IfOk (step s e) (P e)
unfolding step
over_kinds P s read authority tripped restrict revoke (record_kinds.Read r) =
    if_unless (P (record_kinds.Read r)) _ _ _ (read r)
over_kinds P s read authority tripped restrict revoke (record_kinds.Authority a) =
    if_unless (P (record_kinds.Authority a)) _ _ _ (authority a)
over_kinds P s read authority tripped restrict revoke (record_kinds.Calculated eoa svl trip) =
    if_accepted (P (record_kinds.Calculated eoa svl trip)) _ _ _ (tripped eoa svl trip)
over_kinds P s read authority tripped restrict revoke (record_kinds.Restrict r) =
    if_unless (P (record_kinds.Restrict r)) _ _ _ (restrict r)
over_kinds P s read authority tripped restrict revoke (record_kinds.Revoke id) =
    if_unless (P (record_kinds.Revoke id)) _ _ _ (revoke id)

-- a state with the same data is open
pub still_open : (s t : Supervision) → t.train_and_track ≡ s.train_and_track → IsOpen s → IsOpen t
still_open s t same o = record { bands = rw same o.bands; usable = rw same o.usable }

-- a state stays open over each record
stays : (s : Supervision) (e : Event) → IsOpen s → IfOk (step s e) IsOpen
unfolding after_reading
stays s e o = over_kinds (λ _. IsOpen) s (λ r. still_open s _ refl o) (λ a. still_open s _ refl o)
    (λ eoa svl trip none. still_open s _ refl o) (λ r. still_open s _ refl o) (λ id. still_open s _ refl o) e

-- an accepted opening is open, and stays so
pub kept_open : IsKeptOpen
kept_open = record { opens = λ d a bands accepted. record { bands = bands; usable = accepted.0 }; stays = stays }
