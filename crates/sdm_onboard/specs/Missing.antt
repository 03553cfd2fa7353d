-- What a computer holds to whatever comes: the brakes against the traction, and the emergency brake while something that
-- was refused is missing in its supervisor (own).
use Rattle.std.specs.Prelude.{◌≡◌, ◌⊎◌, Bool, IsTrue, None, Result, Ok, Err, is_some, ⊤}
use Rattle.sdm_rules.specs.declared.authorities.Authority.{Authority}
use Rattle.sdm_rules.specs.declared.restrictions.Restriction.{Restriction}
use Rattle.sdm_rules.specs.Records.{authority_fault, restrict_fault}
use Rattle.sdm_rules.specs.Supervision.{Supervision}
use Rattle.sdm_rules.specs.TakeOver.{take_over_fault}
use Rattle.sdm_onboard.specs.declared.messages.Message.{Message}
use Rattle.sdm_onboard.specs.declared.messages.Message.TheVariants as messages
use Rattle.sdm_onboard.specs.declared.onboard.Onboard.{Onboard}
use Rattle.sdm_onboard.specs.declared.opening.OpeningFault.{OpeningFault}
use Rattle.sdm_onboard.specs.declared.orders.Orders.{Orders}
use Rattle.sdm_onboard.specs.Messages.{HasSpeed}

-- ---- at each moment

-- all is ordered: both brakes, with the traction off (own)
pub record IsBraked (o : Orders) : Type 0 where
  pub traction_off : IsTrue o.traction_off
  pub service : IsTrue o.service
  pub emergency : IsTrue o.emergency

-- under either brake the traction is off; and while an authority or a restriction is missing the emergency brake is
-- ordered (own)
pub record HoldsBrakes (o : Onboard) : Type 0 where
  pub cut_off : IsTrue o.orders.emergency ⊎ IsTrue o.orders.service → IsTrue o.orders.traction_off
  pub missing : IsTrue o.is_authority_missing ⊎ IsTrue o.is_restriction_missing → IsTrue o.orders.emergency

-- what was missing is, and nothing more (own)
pub record IsMissingAsBefore (before now : Onboard) : Type 0 where
  pub authority : now.is_authority_missing ≡ before.is_authority_missing
  pub restriction : now.is_restriction_missing ≡ before.is_restriction_missing

-- ---- over a message

-- the supervisor takes the authority (own)
abbrev pub TakesAuthority : Supervision → Authority → Type 0
TakesAuthority s a = authority_fault s.train_and_track.track.length_cm a ≡ None

-- it takes the restriction, which has a speed that one may have (own)
pub record TakesRestriction (s : Supervision) (r : Restriction) : Type 0 where
  pub speed : HasSpeed r
  pub accepted : restrict_fault s.train_and_track.track.length_cm s.restrictions r ≡ None

-- whether an authority is missing after a message: one that is refused is, until one is taken (own)
abbrev pub misses_authority : Onboard → Message → Bool
misses_authority before (messages.Authority a) =
    is_some (authority_fault before.supervisor.train_and_track.track.length_cm a)
misses_authority before (messages.Odometry o) = before.is_authority_missing
misses_authority before messages.Overdue = before.is_authority_missing
misses_authority before (messages.Restriction r) = before.is_authority_missing
misses_authority before (messages.Revocation id) = before.is_authority_missing

-- a restriction that is refused is missing (own)
abbrev pub MissesRestriction : Supervision → Message → Bool → Type 0
MissesRestriction s (messages.Restriction r) missing = (TakesRestriction s r → ⊥) → IsTrue missing
MissesRestriction s (messages.Odometry o) missing = ⊤
MissesRestriction s messages.Overdue missing = ⊤
MissesRestriction s (messages.Authority a) missing = ⊤
MissesRestriction s (messages.Revocation id) missing = ⊤

-- what is missing after a message: a refused authority until one is taken; and a refused restriction for good, whatever
-- comes, until a new computer begins; and the brakes are held as before (own)
pub record Remembers (before : Onboard) (message : Message) (now : Onboard) : Type 0 where
  pub authority : now.is_authority_missing ≡ misses_authority before message
  pub restriction : MissesRestriction before.supervisor message now.is_restriction_missing
  pub stays : IsTrue before.is_restriction_missing → IsTrue now.is_restriction_missing
  pub holds : HoldsBrakes before → HoldsBrakes now

-- ---- over a change of data

-- the supervisor that was opened takes over (own)
abbrev pub IsTakenOver : Supervision → Result Supervision OpeningFault → Type 0
IsTakenOver s (Ok next) = take_over_fault next.train_and_track.track.length_cm s.restrictions ≡ None
IsTakenOver s (Err fault) = ⊥

-- what is missing after a change of data: the authority that came with them where they are refused; and a refused
-- restriction still (own)
pub record RemembersOver (before : Onboard) (opened : Result Supervision OpeningFault) (now : Onboard) : Type 0 where
  pub authority : (IsTakenOver before.supervisor opened → ⊥) → IsTrue now.is_authority_missing
  pub stays : IsTrue before.is_restriction_missing → IsTrue now.is_restriction_missing
  pub holds : HoldsBrakes before → HoldsBrakes now
