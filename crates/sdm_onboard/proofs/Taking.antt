-- What each kind of message is for the ride, as the clause of a computer that takes it says.
use Rattle.std.proofs.Common.{◌≡◌, ◌∙◌, ◌==◌, ℕ, Bool, true, false, Option, Some, None, refl, ap, subst, sym, inl, inr}
use Rattle.std.specs.Prelude.{Result, Ok, Err, OnOk, OnErr, IfErr}
use Rattle.std.specs.Option.{option_eq}
use Rattle.std.proofs.lemmas.Bool.{true≢false}
use Rattle.std.proofs.lemmas.Bool.Decides.{eqb_tells}
use Rattle.sdm_num.specs.Readings.{IsReading}
use Rattle.sdm_rules.specs.declared.authorities.Authority.{Authority}
use Rattle.sdm_rules.specs.declared.faults.AuthorityFault.{AuthorityFault}
use Rattle.sdm_rules.specs.declared.faults.RestrictFault.{RestrictFault}
use Rattle.sdm_rules.specs.declared.faults.RevokeFault.{RevokeFault}
use Rattle.sdm_rules.specs.declared.faults.TakeOverFault.{TakeOverFault}
use Rattle.sdm_rules.specs.declared.records.Event.TheVariants as record_kinds
use Rattle.sdm_rules.specs.declared.restrictions.Restriction.{Restriction}
use Rattle.sdm_rules.specs.Records.{authority_fault, restrict_fault, revoke_fault}
use Rattle.sdm_rules.specs.Supervision.{Supervision, after_authority, after_restriction, after_revocation}
use Rattle.sdm_rules.specs.TakeOver.{take_over_fault, taken_over}
use Rattle.sdm_ride.specs.Happenings.{Happening, Record, Unread, Overdue, Change}
use Rattle.sdm_release_ride.specs.TripPlaces.{by_guarded}
use Rattle.sdm_service_ride.specs.ServiceMoments.{by_eoa}
use Rattle.sdm_onboard.specs.declared.messages.Message.{Message}
use Rattle.sdm_onboard.specs.declared.messages.Message.TheVariants as messages
use Rattle.sdm_onboard.specs.declared.messages.Odometry.{Odometry}
use Rattle.sdm_onboard.specs.declared.onboard.Onboard.{Onboard}
use Rattle.sdm_onboard.specs.declared.opening.OpeningFault.{OpeningFault}
use Rattle.sdm_onboard.specs.Guard.{bounds}
use Rattle.sdm_onboard.specs.Messages.{Changes, Follows, HasSpeed, IsOpenedFor, IsRepeated, Takes, computer_of}
use Rattle.sdm_onboard.specs.Messages.{reading_in, service_of}
use Rattle.sdm_onboard.specs.Missing.{IsBraked}
use Rattle.sdm_onboard.proofs.Going as going

-- a time that isn't that of the last reading
pub not_again : (last : Option ℕ) (time : ℕ) (equal : Bool) → equal ≡ option_eq (λ a b. a == b) last (Some time) →
    equal ≡ false → last ≡ Some time → ⊥
not_again last time equal is differs again =
    let same : (time == time) ≡ false =
    subst (λ (o : Option ℕ). option_eq (λ a b. a == b) o (Some time) ≡ false) again (sym is ∙ differs) in
    elim (eqb_tells time time) [
      | inl e ↦ true≢false (sym e.0 ∙ same)
      | inr e ↦ e.1 refl
    ]

-- a reading that tells of a new moment
pub reading : (before now : Onboard) (o : Odometry) → IsReading (reading_in o) →
    (IsRepeated before.supervisor o → ⊥) → Follows before (Record (record_kinds.Read (reading_in o))) now →
    (h : Happening) × Takes before (messages.Odometry o) h now
reading before now o is new follows =
    (Record (record_kinds.Read (reading_in o)), record { is_for = inl (is, (new, refl)); follows = follows })

-- a record out of its form, which takes no order away
follows_unread : (before now : Onboard) → now.supervisor ≡ before.supervisor →
    (before.orders.emergency ≡ true → now.orders.emergency ≡ true) →
    (before.orders.service ≡ true → now.orders.service ≡ true) → Follows before Unread now
follows_unread before now same stands serves = record {
  emergency = going.unread (by_guarded bounds) (computer_of before) (computer_of now) same stands;
  service = going.unread by_eoa (service_of before) (service_of now) same serves;
}

-- a reading out of its range
pub unread : (before now : Onboard) (o : Odometry) → (IsReading (reading_in o) → ⊥) →
    now.supervisor ≡ before.supervisor → (before.orders.emergency ≡ true → now.orders.emergency ≡ true) →
    (before.orders.service ≡ true → now.orders.service ≡ true) →
    (h : Happening) × Takes before (messages.Odometry o) h now
unread before now o not same stands serves =
    (Unread, record { is_for = inr (inr (not, refl)); follows = follows_unread before now same stands serves })

-- a missing reading: then both brakes are ordered
follows_overdue : (before now : Onboard) → now.supervisor ≡ before.supervisor → IsBraked now.orders →
    Follows before Overdue now
follows_overdue before now same braked = record {
  emergency = going.overdue (by_guarded bounds) (computer_of before) (computer_of now) same braked.emergency;
  service = going.overdue by_eoa (service_of before) (service_of now) same braked.service;
}

pub missing : (before now : Onboard) → now.supervisor ≡ before.supervisor → IsBraked now.orders →
    (h : Happening) × Takes before messages.Overdue h now
missing before now same braked =
    (Overdue, record { is_for = refl; follows = follows_overdue before now same braked })

-- so is one that repeats a time
pub repeated : (before now : Onboard) (o : Odometry) → IsReading (reading_in o) → IsRepeated before.supervisor o →
    now.supervisor ≡ before.supervisor → IsBraked now.orders →
    (h : Happening) × Takes before (messages.Odometry o) h now
repeated before now o is again same braked =
    (Overdue, record { is_for = inr (inl (is, (again, refl))); follows = follows_overdue before now same braked })

-- an authority that is taken
pub authority : (before now : Onboard) (a : Authority) →
    authority_fault before.supervisor.train_and_track.track.length_cm a ≡ None →
    now.supervisor ≡ after_authority before.supervisor a → now.orders ≡ before.orders →
    (h : Happening) × Takes before (messages.Authority a) h now
authority before now a none taken same = (
  Record (record_kinds.Authority a),
  record {
    is_for = refl;
    follows = record {
      emergency = going.authority (by_guarded bounds) (computer_of before) (computer_of now) a none taken
          (λ stood. ap (λ o. o.emergency) same ∙ stood);
      service = going.authority by_eoa (service_of before) (service_of now) a none taken
          (λ stood. ap (λ o. o.service) same ∙ stood);
    };
  },
)

-- one that is refused: then both brakes are ordered
pub refused_authority : (before now : Onboard) (a : Authority) (fault : AuthorityFault) →
    authority_fault before.supervisor.train_and_track.track.length_cm a ≡ Some fault →
    now.supervisor ≡ before.supervisor → now.orders.emergency ≡ true → now.orders.service ≡ true →
    (h : Happening) × Takes before (messages.Authority a) h now
refused_authority before now a fault is same braked served = (
  Record (record_kinds.Authority a),
  record {
    is_for = refl;
    follows = record {
      emergency = going.refused_authority (by_guarded bounds) (computer_of before) (computer_of now) a fault is same (λ _. braked);
      service = going.refused_authority by_eoa (service_of before) (service_of now) a fault is same (λ _. served);
    };
  },
)

-- why a restriction is refused
abbrev pub fault_of : Onboard → Restriction → Option RestrictFault
fault_of before r =
    restrict_fault before.supervisor.train_and_track.track.length_cm before.supervisor.restrictions r

-- one that the supervisor takes or refuses
pub asked_restriction : {U : Type 0} (before now : Onboard) (r : Restriction) (answer : Result U RestrictFault) →
    HasSpeed r → OnOk answer (fault_of before r ≡ None) →
    OnOk answer (now.supervisor ≡ after_restriction before.supervisor r) →
    IfErr answer (λ fault. fault_of before r ≡ Some fault) → OnErr answer (now.supervisor ≡ before.supervisor) →
    now.orders ≡ before.orders →
    (h : Happening) × Takes before (messages.Restriction r) h now
asked_restriction before now r (Ok u) speed accepted taken refused unchanged same = (
  Record (record_kinds.Restrict r),
  record {
    is_for = inl (speed, refl);
    follows = record {
      emergency = going.restriction (by_guarded bounds) (computer_of before) (computer_of now) r accepted taken
          (λ stood. ap (λ o. o.emergency) same ∙ stood);
      service = going.restriction by_eoa (service_of before) (service_of now) r accepted taken
          (λ stood. ap (λ o. o.service) same ∙ stood);
    };
  },
)
asked_restriction before now r (Err fault) speed accepted taken refused unchanged same = (
  Record (record_kinds.Restrict r),
  record {
    is_for = inl (speed, refl);
    follows = record {
      emergency = going.refused_restriction (by_guarded bounds) (computer_of before) (computer_of now) r fault refused unchanged
          (λ stood. ap (λ o. o.emergency) same ∙ stood);
      service = going.refused_restriction by_eoa (service_of before) (service_of now) r fault refused unchanged
          (λ stood. ap (λ o. o.service) same ∙ stood);
    };
  },
)

-- one of a speed out of its range
pub unread_restriction : (before now : Onboard) (r : Restriction) → (HasSpeed r → ⊥) →
    now.supervisor ≡ before.supervisor → (before.orders.emergency ≡ true → now.orders.emergency ≡ true) →
    (before.orders.service ≡ true → now.orders.service ≡ true) →
    (h : Happening) × Takes before (messages.Restriction r) h now
unread_restriction before now r not same stands serves =
    (Unread, record { is_for = inr (not, refl); follows = follows_unread before now same stands serves })

-- a revocation that is taken, and one that is refused
pub revocation : (before now : Onboard) (id : ℕ) → revoke_fault before.supervisor.restrictions id ≡ None →
    now.supervisor ≡ after_revocation before.supervisor id → now.orders ≡ before.orders →
    (h : Happening) × Takes before (messages.Revocation id) h now
revocation before now id none taken same = (
  Record (record_kinds.Revoke id),
  record {
    is_for = refl;
    follows = record {
      emergency = going.revocation (by_guarded bounds) (computer_of before) (computer_of now) id none taken
          (λ stood. ap (λ o. o.emergency) same ∙ stood);
      service = going.revocation by_eoa (service_of before) (service_of now) id none taken
          (λ stood. ap (λ o. o.service) same ∙ stood);
    };
  },
)

pub refused_revocation : (before now : Onboard) (id : ℕ) (fault : RevokeFault) →
    revoke_fault before.supervisor.restrictions id ≡ Some fault → now.supervisor ≡ before.supervisor →
    now.orders ≡ before.orders →
    (h : Happening) × Takes before (messages.Revocation id) h now
refused_revocation before now id fault is same kept = (
  Record (record_kinds.Revoke id),
  record {
    is_for = refl;
    follows = record {
      emergency = going.refused_revocation (by_guarded bounds) (computer_of before) (computer_of now) id fault is same
          (λ stood. ap (λ o. o.emergency) kept ∙ stood);
      service = going.refused_revocation by_eoa (service_of before) (service_of now) id fault is same
          (λ stood. ap (λ o. o.service) kept ∙ stood);
    };
  },
)

-- a supervisor that was opened is changed to
opened_for : (opened : Result Supervision OpeningFault) (next : Supervision) → opened ≡ Ok next →
    IsOpenedFor opened (Change next)
opened_for opened next is = subst (λ o. IsOpenedFor o (Change next)) (sym is) refl

-- new data that are taken
pub taken_data : (before now : Onboard) (opened : Result Supervision OpeningFault) (next : Supervision) →
    opened ≡ Ok next →
    take_over_fault next.train_and_track.track.length_cm before.supervisor.restrictions ≡ None →
    now.supervisor ≡ taken_over next before.supervisor → now.orders ≡ before.orders →
    (h : Happening) × Changes before opened h now
taken_data before now opened next is_opened none taken same = (
  Change next,
  record {
    is_for = opened_for opened next is_opened;
    follows = record {
      emergency = going.taken_data (by_guarded bounds) (computer_of before) (computer_of now) next none taken
          (λ stood. ap (λ o. o.emergency) same ∙ stood);
      service = going.taken_data by_eoa (service_of before) (service_of now) next none taken
          (λ stood. ap (λ o. o.service) same ∙ stood);
    };
  },
)

-- new data whose supervisor doesn't take over: then both brakes are ordered
pub refused_data : (before now : Onboard) (opened : Result Supervision OpeningFault) (next : Supervision)
    (fault : TakeOverFault) → opened ≡ Ok next →
    take_over_fault next.train_and_track.track.length_cm before.supervisor.restrictions ≡ Some fault →
    now.supervisor ≡ before.supervisor → now.orders.emergency ≡ true → now.orders.service ≡ true →
    (h : Happening) × Changes before opened h now
refused_data before now opened next fault is_opened is same braked served = (
  Change next,
  record {
    is_for = opened_for opened next is_opened;
    follows = record {
      emergency = going.refused_data (by_guarded bounds) (computer_of before) (computer_of now) next fault is same (λ _. braked);
      service = going.refused_data by_eoa (service_of before) (service_of now) next fault is same (λ _. served);
    };
  },
)

-- new data that open no supervisor
pub unopened : (before now : Onboard) (fault : OpeningFault) → now.supervisor ≡ before.supervisor →
    now.orders.emergency ≡ true → now.orders.service ≡ true → (h : Happening) × Changes before (Err fault) h now
unopened before now fault same braked served =
    (Unread, record { is_for = refl; follows = follows_unread before now same (λ _. braked) (λ _. served) })

-- an order more than a message asks for
pub braked : (before now later : Onboard) (message : Message) → later.supervisor ≡ now.supervisor →
    later.orders.emergency ≡ true → later.orders.service ≡ true → (h : Happening) × Takes before message h now →
    (h : Happening) × Takes before message h later
braked before now later message same is serves takes = (
  takes.0,
  record {
    is_for = takes.1.is_for;
    follows = record {
      emergency = going.braked (by_guarded bounds) (computer_of before) (computer_of now) (computer_of later) takes.0 same is
          takes.1.follows.emergency;
      service = going.braked by_eoa (service_of before) (service_of now) (service_of later) takes.0 same serves
          takes.1.follows.service;
    };
  },
)
