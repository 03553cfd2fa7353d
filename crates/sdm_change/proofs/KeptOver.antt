-- What is kept over a record is the same of two states where the commands are.
use Rattle.std.proofs.Common.{◌≡◌, Option, Some, None, refl, ap}
use Rattle.std.specs.Prelude.{Ok}
use Rattle.std.specs.Ordering.{nat_cmp}
use Rattle.std.specs.FinMap as finite
use Rattle.sdm_rules.specs.declared.faults.EventCause.{EventCause}
use Rattle.sdm_rules.specs.declared.records.Event.TheVariants as record_kinds
use Rattle.sdm_rules.specs.declared.restrictions.Restriction.{Restriction}
use Rattle.sdm_rules.specs.Records.{step, unless}
use Rattle.sdm_rules.specs.Supervision.{Supervision, after_reading}
use Rattle.sdm_change.specs.KeptLaws.{IsSameKept, LawOfKept, LawOfRenewal}

-- where no fault refuses the record, the state is the one given
taken_is : {F : Type 0} (cause : F → EventCause) (o : Option F) (s t : Supervision) → unless cause o s ≡ Ok t → s ≡ t
taken_is cause None s t is = cc
taken_is cause (Some fault) s t is = absurd cc

-- so of both
both : {F G : Type 0} (f : F → EventCause) (g : G → EventCause) (o : Option F) (q : Option G)
    (s t s' t' : Supervision) → unless f o s ≡ Ok s' → unless g q t ≡ Ok t' →
    (s.commands ≡ t.commands → IsSameKept s t) → s'.commands ≡ t'.commands → IsSameKept s' t'
both f g o q s t s' t' is is' same commands =
    let a = taken_is f o s s' is in
    let b = taken_is g q t t' is' in
    rw (← a, ← b) (same (rw (← a, ← b) at commands))

pub kept : LawOfKept
unfolding step after_reading
kept s t s' t' (record_kinds.Read r) k is is' commands =
    both _ _ _ _ _ _ s' t' is is' (λ c. record { restrictions = k.restrictions; last_time = refl; commands = c })
    commands
kept s t s' t' (record_kinds.Authority a) k is is' commands =
    both _ _ _ _ _ _ s' t' is is' (λ c. record { restrictions = k.restrictions; last_time = k.last_time; commands = c })
    commands
kept s t s' t' (record_kinds.Calculated eoa svl trip) k is is' commands =
    both _ _ _ _ _ _ s' t' is is' (λ c. record { restrictions = k.restrictions; last_time = k.last_time; commands = c })
    commands
kept s t s' t' (record_kinds.Restrict r) k is is' commands =
    both _ _ _ _ _ _ s' t' is is' (λ c. record {
      restrictions = ap (λ (m : finite.FinMap nat_cmp Restriction). finite.insert m r.id r) k.restrictions;
      last_time = k.last_time;
      commands = c;
    }) commands
kept s t s' t' (record_kinds.Revoke id) k is is' commands =
    both _ _ _ _ _ _ s' t' is is' (λ c. record {
      restrictions = ap (λ (m : finite.FinMap nat_cmp Restriction). finite.remove m id) k.restrictions;
      last_time = k.last_time;
      commands = c;
    }) commands

pub renewal : LawOfRenewal
renewal s t k = λ i. record t {
  restrictions = k.restrictions i;
  last_time = k.last_time i;
  commands = k.commands i;
}
