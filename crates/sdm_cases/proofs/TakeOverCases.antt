-- Cases of a change of data: what is kept, what is refused, what a supervisor that forgets would break, and how a
-- journey goes on over one.
use Rattle.std.proofs.Common.{◌≡◌, ℕ, ℤ, pos, true, false, Bool, Some, None, List, [], ◌∷◌, ◌∙◌, refl, sym}
use Rattle.std.proofs.lemmas.Bool.{false≢true}
use Rattle.std.proofs.lemmas.List.{nil_from_length}
use Rattle.std.specs.Prelude.{Result, Ok, Err}
use Rattle.std.specs.Ordering.{nat_cmp}
use Rattle.std.specs.Cmp.{nat_cmp_total}
use Rattle.std.specs.FinMap as finite
use Rattle.sdm_num.specs.Readings.{OdometerReading}
use Rattle.sdm_rules.specs.declared.authorities.Authority.{Authority}
use Rattle.sdm_rules.specs.declared.commands.Held.{Held}
use Rattle.sdm_rules.specs.declared.commands.Status.TheVariants.{X}
use Rattle.sdm_rules.specs.declared.faults.EventCause.{EventCause}
use Rattle.sdm_rules.specs.declared.faults.EventCause.TheVariants as causes
use Rattle.sdm_rules.specs.declared.faults.EventFault.{EventFault}
use Rattle.sdm_rules.specs.declared.faults.TakeOverFault.TheVariants.{BeyondTrack}
use Rattle.sdm_rules.specs.declared.records.Event.{Event}
use Rattle.sdm_rules.specs.declared.records.Event.TheVariants as record_kinds
use Rattle.sdm_rules.specs.declared.restrictions.Restriction.{Restriction}
use Rattle.sdm_rules.specs.Data.{TrainAndTrack}
use Rattle.sdm_rules.specs.Machines.{InOrder}
use Rattle.sdm_rules.specs.Records.{Turn, step, turn_of}
use Rattle.sdm_rules.specs.Supervision.{Supervision, opening}
use Rattle.sdm_rules.specs.TakeOver.{change, renewed, take_over_fault, taken_over}
use Rattle.sdm_change.specs.declared.refusals.Refusal.TheVariants as refusals
use Rattle.sdm_change.specs.Parts.{Part, parts_from, records_then}

-- ---- what is kept

-- an emergency brake that is held stays held, with its status, whatever the data and the authority are
braked : Held
braked = record { tco = true; sb = false; eb = true; status = X }

keeps_emergency : (before : Supervision) (d : TrainAndTrack) (a : Authority) →
    (renewed (record before { commands = braked }) d a).commands ≡ braked
keeps_emergency before d a = refl

-- the authority is that of the next supervisor
takes_authority : (next before : Supervision) → (taken_over next before).authority ≡ next.authority
takes_authority next before = refl

-- a reading at 4.9 s after one at 5 s before the change is refused, as it was
keeps_time : (before : Supervision) (d : TrainAndTrack) (a : Authority) (r : OdometerReading) →
    step (renewed (record before { last_time = Some 50 }) d a) (record_kinds.Read (record r { time = 49 }))
    ≡ Err (causes.TimeBack 50 49)
unfolding step
keeps_time before d a r = refl

-- and right after an opening it would be accepted
opening_forgets_time : (d : TrainAndTrack) (a : Authority) → (opening d a).last_time ≡ None
opening_forgets_time d a = refl

-- ---- what would break

-- where the exact machine holds its emergency command, a supervisor that forgets its own is out of order
forgets_order : (d : TrainAndTrack) (a : Authority) (may : Bool) → InOrder true (opening d a).commands.eb may → ⊥
forgets_order d a may h = false≢true (h.needed refl)

-- ---- what is refused

-- two restrictions that end at 80 m and at 90 m
up_to_80_m : Restriction
up_to_80_m = record { id = 3; start = 1000; end = 8000; speed = 40; delayed = false }

up_to_90_m : Restriction
up_to_90_m = record { id = 7; start = 1000; end = 9000; speed = 40; delayed = false }

-- in force, the one with the greater identity first
abbrev two : finite.FinMap nat_cmp Restriction
two = finite.insert (finite.insert finite.empty 7 up_to_90_m) 3 up_to_80_m

pub none_in : finite.entries (finite.empty {X = Restriction} {R = nat_cmp}) ≡ []
none_in =
    nil_from_length (finite.entries (finite.empty {X = Restriction} {R = nat_cmp}))
    (sym (finite.len-entries (finite.empty {X = Restriction} {R = nat_cmp})) ∙ finite.len-empty nat_cmp Restriction)

entries_are : finite.entries two ≡ (3, up_to_80_m) ∷ (7, up_to_90_m) ∷ []
unfolding up_to_80_m
entries_are =
    finite.entries-insert nat_cmp_total (finite.insert finite.empty 7 up_to_90_m) 3 up_to_80_m
    ∙ rw (finite.entries-insert nat_cmp_total (finite.empty {X = Restriction} {R = nat_cmp}) 7 up_to_90_m, none_in) refl

-- on 70 m of track neither fits: the one of the least identity is told
neither_fits : take_over_fault (pos 7000) two ≡ Some (BeyondTrack 3)
unfolding up_to_80_m up_to_90_m
neither_fits = rw entries_are refl

-- on 85 m that of identity 7 doesn't
one_fits_not : take_over_fault (pos 8500) two ≡ Some (BeyondTrack 7)
unfolding up_to_80_m up_to_90_m
one_fits_not = rw entries_are refl

-- on 90 m both fit: they end at its end or before it
both_fit : take_over_fault (pos 9000) two ≡ None
unfolding up_to_80_m up_to_90_m
both_fit = rw entries_are refl

-- the same two are kept over a change of data
keeps_restrictions : (before : Supervision) (d : TrainAndTrack) (a : Authority) →
    (renewed (record before { restrictions = two }) d a).restrictions ≡ two
keeps_restrictions before d a = refl

-- a state on a track of a length in cm
abbrev on_track : ℤ → Supervision → Supervision
on_track length_cm s = record s {
  train_and_track = record s.train_and_track { track = record s.train_and_track.track { length_cm = length_cm } };
}

-- from 90 m of track to 85 m the change is refused, and from 85 m to 90 m it isn't: the new track counts
new_track_is_short : (next before : Supervision) →
    change (on_track (pos 8500) next) (on_track (pos 9000) (record before { restrictions = two }))
    ≡ Err (BeyondTrack 7)
unfolding change up_to_80_m up_to_90_m
new_track_is_short next before = rw entries_are refl

new_track_is_long : (next before : Supervision) →
    change (on_track (pos 9000) next) (on_track (pos 8500) (record before { restrictions = two }))
    ≡ Ok (taken_over (on_track (pos 9000) next) (on_track (pos 8500) (record before { restrictions = two })))
unfolding change up_to_80_m up_to_90_m
new_track_is_long next before = rw entries_are refl

-- ---- journeys over data parts

-- a journey whose fourth record would come after a refused change ends there, and has the number 4
ends_at_a_refused_change :
    {A : Type 0} (form : ℕ → A → Result Event EventFault) (p : Part A) (ps : List (Part A)) (s : Supervision) →
    change p.opened s ≡ Err (BeyondTrack 7) →
    parts_from form (p ∷ ps) 4 s ≡ record { turns = []; refused = Some (4, refusals.Change (BeyondTrack 7)) }
ends_at_a_refused_change form p ps s refused = rw refused refl

-- one of three records, of which the second and the third each come after a change: the third is refused, and has the
-- number 3
numbers_go_on :
    {A : Type 0} (form : ℕ → A → Result Event EventFault) (x y z : A) (p q s t u : Supervision) (first second : Turn)
    (cause : EventCause) →
    turn_of s (form 1 x) ≡ Ok first → change p first.after ≡ Ok t → turn_of t (form 2 y) ≡ Ok second →
    change q second.after ≡ Ok u → turn_of u (form 3 z) ≡ Err cause →
    records_then form
    (λ m v. parts_from form
    (record { opened = p; records = y ∷ [] } ∷ record { opened = q; records = z ∷ [] } ∷ []) m v) 1 s (x ∷ [])
    ≡ record { turns = first ∷ second ∷ []; refused = Some (3, refusals.Record cause) }
numbers_go_on form x y z p q s t u first second cause taken changed taken_too changed_too refused =
    rw (taken, changed, taken_too, changed_too, refused) refl
