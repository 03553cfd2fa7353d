-- The headline goes on from turn to turn: a reading keeps the three commands in order, no other record changes one,
-- and a state stays open.
use Rattle.std.proofs.Common.{ℕ, suc, Bool, [], ◌∷◌, refl}
use Rattle.std.specs.Prelude.{Result, Ok, Err, IfOk}
use Rattle.sdm_num.specs.Readings.{OdometerReading}
use Rattle.sdm_rules.specs.declared.data.SlopeKind.TheVariants.{Safe}
use Rattle.sdm_rules.specs.declared.faults.EventCause.{EventCause}
use Rattle.sdm_rules.specs.declared.faults.EventFault.{EventFault}
use Rattle.sdm_rules.specs.declared.records.Event.{Event}
use Rattle.sdm_rules.specs.Headline.{IsRowSafe, IsRecordSafe, AreTurnsSafe, over_record}
use Rattle.sdm_rules.specs.Machines.{InOrder, must_after, may_after}
use Rattle.sdm_rules.specs.Opening.{IsOpen}
use Rattle.sdm_rules.specs.Records.{Journey, go_on, journey_from, step, turn_of, turn_to}
use Rattle.sdm_rules.specs.Supervision.{Supervision, after_reading, row_in}
use Rattle.sdm_laws.specs.SupervisionLaws.{LawOfJourneys}
use Rattle.sdm_laws.proofs.Rows.Ceiling.{within_ceiling}
use Rattle.sdm_laws.proofs.Rows.CalculatedRelease.{release_speed_is, trip_by_svl}
use Rattle.sdm_laws.proofs.Rows.Gaps.{gaps}
use Rattle.sdm_laws.proofs.Rows.Headline.{machines, stop, release, over_kinds, still_open}

-- the row of a reading in an open state is safe
pub row_safe : (must may : Bool) (s : Supervision) (r : OdometerReading) → IsOpen s → InOrder must s.commands.eb may →
    IsRowSafe must may s r
unfolding row_in
row_safe must may s r o h =
    record {
      order = machines s r o must may h;
      stop = stop s r o;
      gaps = gaps s r;
      ceiling = within_ceiling s r;
      release =
          release s r o;
    }

-- a record is safe, and leads to an open state in which the commands are in order
pub record Leads (must may : Bool) (s : Supervision) (e : Event) (t : Supervision) : Type 0 where
  pub safe : IsRecordSafe must may s e
  pub open_after : IsOpen t
  pub order : InOrder (over_record must_after s e must) t.commands.eb (over_record may_after s e may)

-- each record is safe and leads on
pub leads : (must may : Bool) (s : Supervision) → IsOpen s → InOrder must s.commands.eb may → (e : Event) →
    IfOk (step s e) (Leads must may s e)
unfolding after_reading
leads must may s o h =
    over_kinds (Leads must may s) s
    (λ r. record {
      safe = row_safe must may s r o h;
      open_after = still_open s _ refl o;
      order =
          machines s r o must may h;
    })
    (λ a. record { safe = tt; open_after = still_open s _ refl o; order = h })
    (λ eoa svl trip none. record {
      safe = release_speed_is s.train_and_track svl trip o.bands (o.usable Safe) (trip_by_svl _ eoa svl trip none);
      open_after = still_open s _ refl o;
      order = h;
    })
    (λ r. record { safe = tt; open_after = still_open s _ refl o; order = h })
    (λ id. record { safe = tt; open_after = still_open s _ refl o; order = h })

-- what is left of a journey is safe from any open state on in which the commands are in order
abbrev IsLaterSafe : (Supervision → Journey) → Type 0
IsLaterSafe rest = (t : Supervision) (must may : Bool) → IsOpen t → InOrder must t.commands.eb may →
    AreTurnsSafe must may (rest t).turns

-- the rest is safe after a record that is taken or refused
after_step :
    (n : ℕ) (must may : Bool) (s : Supervision) (e : Event) (r : Result Supervision EventCause)
    (rest : Supervision → Journey) →
    IfOk r (Leads must may s e) → IsLaterSafe rest → AreTurnsSafe must may (go_on n (turn_to s e r) rest).turns
after_step n must may s e (Ok t) rest h later = (h.safe, later t _ _ h.open_after h.order)
after_step n must may s e (Err cause) rest h later = tt

-- and after a record that can be read or not
after_record :
    (n : ℕ) (must may : Bool) (s : Supervision) (e : Result Event EventFault) (rest : Supervision → Journey) →
    IsOpen s → InOrder must s.commands.eb may → IsLaterSafe rest →
    AreTurnsSafe must may (go_on n (turn_of s e) rest).turns
after_record n must may s (Ok e) rest o h later =
    after_step n must may s e (step s e) rest (leads must may s o h e) later
after_record n must may s (Err fault) rest o h later = tt

-- the headline of every journey
pub turns_safe : {Record : Type 0} → LawOfJourneys Record
turns_safe form n s must may [] o h = tt
turns_safe form n s must may (x ∷ xs) o h =
    after_record n must may s (form n x) (λ t. journey_from form (suc n) t xs) o h
    (λ t m m' o' h'. turns_safe form (suc n) t m m' xs o' h')
