-- The brakes along a run: what one message or change leaves is what the next one finds.
use Rattle.std.proofs.Common.{◌≡◌, List, [], ◌∷◌, Option, Some, None, refl, subst, sym, inl, inr}
use Rattle.std.specs.Prelude.{All, IsTrue, Result, Ok, Err, is_some}
use Rattle.std.proofs.lemmas.List.Elements.{All-nil, All-cons}
use Rattle.sdm_rules.specs.declared.authorities.Authority.{Authority}
use Rattle.sdm_rules.specs.declared.faults.AuthorityFault.{AuthorityFault}
use Rattle.sdm_rules.specs.declared.records.Event.TheVariants as record_kinds
use Rattle.sdm_rules.specs.Records.{authority_fault}
use Rattle.sdm_rules.specs.Supervision.{Supervision}
use Rattle.sdm_ride.specs.Happenings.{Happening, Record}
use Rattle.sdm_onboard.specs.declared.messages.Message.{Message}
use Rattle.sdm_onboard.specs.declared.messages.Message.TheVariants as messages
use Rattle.sdm_onboard.specs.declared.onboard.Onboard.{Onboard}
use Rattle.sdm_onboard.specs.declared.opening.OpeningFault.{OpeningFault}
use Rattle.sdm_onboard.specs.Messages.{IsFor, IsOpenedFor}
use Rattle.sdm_onboard.specs.Missing.{HoldsBrakes, IsTakenOver, misses_authority}
use Rattle.sdm_onboard.specs.Runs.{HasNoNewAuthority, IsOver, IsRun, IsStopped, IsUnjudged, LawOfBrakes, RenewsAuthority}
use Rattle.sdm_onboard.proofs.Runs.{goes_on}

-- ---- over one happening

holds_on : (o : Onboard) (h : Happening) (p : Onboard) → IsOver o h p → HoldsBrakes o → HoldsBrakes p
holds_on o h p (inl x) holds = x.2.holds holds
holds_on o h p (inr (inl x)) holds = x.2.holds holds
holds_on o h p (inr (inr x)) holds = subst HoldsBrakes (sym x.3) holds

-- a missing restriction stays missing
restriction_on : (o : Onboard) (h : Happening) (p : Onboard) → IsOver o h p → IsTrue o.is_restriction_missing →
    IsTrue p.is_restriction_missing
restriction_on o h p (inl x) missing = x.2.stays missing
restriction_on o h p (inr (inl x)) missing = x.2.stays missing
restriction_on o h p (inr (inr x)) missing = subst (λ (q : Onboard). IsTrue q.is_restriction_missing) (sym x.3) missing

-- an authority that isn't taken is missing
refused : (s : Supervision) (a : Authority) (h : Happening) (f : Option AuthorityFault) →
    authority_fault s.train_and_track.track.length_cm a ≡ f → h ≡ Record (record_kinds.Authority a) →
    (RenewsAuthority s h → ⊥) → IsTrue (is_some f)
refused s a h None is same none = absurd (none (subst (RenewsAuthority s) (sym same) is))
refused s a h (Some fault) is same none = refl

-- so a missing authority stays missing with a message
message_misses : (o : Onboard) (message : Message) (h : Happening) → IsFor o.supervisor message h →
    (RenewsAuthority o.supervisor h → ⊥) → IsTrue o.is_authority_missing → IsTrue (misses_authority o message)
message_misses o (messages.Odometry r) h is none missing = missing
message_misses o messages.Overdue h is none missing = missing
message_misses o (messages.Authority a) h is none missing =
    refused o.supervisor a h (authority_fault o.supervisor.train_and_track.track.length_cm a) refl is none
message_misses o (messages.Restriction r) h is none missing = missing
message_misses o (messages.Revocation id) h is none missing = missing

-- and over data that aren't changed to
not_taken : (s : Supervision) (opened : Result Supervision OpeningFault) (h : Happening) → IsOpenedFor opened h →
    (RenewsAuthority s h → ⊥) → IsTakenOver s opened → ⊥
not_taken s (Ok next) h is none taken = none (subst (RenewsAuthority s) (sym is) taken)
not_taken s (Err fault) h is none taken = taken

authority_on : (o : Onboard) (h : Happening) (p : Onboard) → IsOver o h p → (RenewsAuthority o.supervisor h → ⊥) →
    IsTrue o.is_authority_missing → IsTrue p.is_authority_missing
authority_on o h p (inl x) none missing =
    subst IsTrue (sym x.2.authority) (message_misses o x.0 h x.1.is_for none missing)
authority_on o h p (inr (inl x)) none missing = x.2.authority (not_taken o.supervisor x.0 h x.1.is_for none)
authority_on o h p (inr (inr x)) none missing =
    subst (λ (q : Onboard). IsTrue q.is_authority_missing) (sym x.3) missing

-- ---- along the run

begins : (o : Onboard) (hs : List Happening) (os : List Onboard) → IsStopped o → IsRun o hs os → IsUnjudged o hs os →
    All IsStopped os
begins o [] [] stopped run unjudged = All-nil IsStopped
begins o [] (p ∷ ps) stopped run unjudged = absurd run
begins o (h ∷ hs) [] stopped run unjudged = absurd run
begins o (h ∷ hs) (p ∷ ps) stopped run unjudged =
    let next = (goes_on o h p run.0).emergency.stands unjudged.0 stopped in
    All-cons IsStopped p ps next (begins p hs ps next run.1 unjudged.1)

holds : (o : Onboard) (hs : List Happening) (os : List Onboard) → HoldsBrakes o → IsRun o hs os → All HoldsBrakes os
holds o [] [] held run = All-nil HoldsBrakes
holds o [] (p ∷ ps) held run = absurd run
holds o (h ∷ hs) [] held run = absurd run
holds o (h ∷ hs) (p ∷ ps) held run =
    let next = holds_on o h p run.0 held in
    All-cons HoldsBrakes p ps next (holds p hs ps next run.1)

restriction : (o : Onboard) (hs : List Happening) (os : List Onboard) → HoldsBrakes o →
    IsTrue o.is_restriction_missing → IsRun o hs os → All IsStopped os
restriction o [] [] held missing run = All-nil IsStopped
restriction o [] (p ∷ ps) held missing run = absurd run
restriction o (h ∷ hs) [] held missing run = absurd run
restriction o (h ∷ hs) (p ∷ ps) held missing run =
    let held_next = holds_on o h p run.0 held in
    let next = restriction_on o h p run.0 missing in
    All-cons IsStopped p ps (held_next.missing (inr next)) (restriction p hs ps held_next next run.1)

authority : (o : Onboard) (hs : List Happening) (os : List Onboard) → HoldsBrakes o → IsTrue o.is_authority_missing →
    IsRun o hs os → HasNoNewAuthority o hs os → All IsStopped os
authority o [] [] held missing run none = All-nil IsStopped
authority o [] (p ∷ ps) held missing run none = absurd run
authority o (h ∷ hs) [] held missing run none = absurd run
authority o (h ∷ hs) (p ∷ ps) held missing run none =
    let held_next = holds_on o h p run.0 held in
    let next = authority_on o h p run.0 none.0 missing in
    All-cons IsStopped p ps (held_next.missing (inl next)) (authority p hs ps held_next next run.1 none.1)

-- the law of brakes
pub brakes : LawOfBrakes
brakes = record { begins = begins; holds = holds; restriction = restriction; authority = authority }
