-- What is missing after each kind of message, as the clause of a computer that takes it says.
use Rattle.std.proofs.Common.{◌≡◌, ◌⊎◌, ◌∙◌, ap, refl, false, Some, None, inl, inr, subst, sym}
use Rattle.std.specs.Prelude.{IsTrue, Result, Ok, is_some}
use Rattle.sdm_rules.specs.declared.authorities.Authority.{Authority}
use Rattle.sdm_rules.specs.declared.faults.AuthorityFault.{AuthorityFault}
use Rattle.sdm_rules.specs.declared.restrictions.Restriction.{Restriction}
use Rattle.sdm_rules.specs.Records.{authority_fault}
use Rattle.sdm_rules.specs.Supervision.{Supervision}
use Rattle.sdm_rules.specs.TakeOver.{take_over_fault}
use Rattle.sdm_onboard.specs.declared.messages.Message.{Message}
use Rattle.sdm_onboard.specs.declared.messages.Message.TheVariants as messages
use Rattle.sdm_onboard.specs.declared.onboard.Onboard.{Onboard}
use Rattle.sdm_onboard.specs.declared.opening.OpeningFault.{OpeningFault}
use Rattle.sdm_onboard.specs.declared.orders.Orders.{Orders}
use Rattle.sdm_onboard.specs.Missing.{HoldsBrakes, IsBraked, IsMissingAsBefore, IsTakenOver, MissesRestriction, Remembers}
use Rattle.sdm_onboard.specs.Missing.{RemembersOver, TakesRestriction, misses_authority}

-- ---- the brakes

-- where all is ordered the brakes are held
pub holds_braked : (o : Onboard) → IsBraked o.orders → HoldsBrakes o
holds_braked o braked = record { cut_off = λ _. braked.traction_off; missing = λ _. braked.emergency }

-- so are they where the orders stay, and nothing more is missing
pub holds_kept : (before now : Onboard) → now.orders ≡ before.orders →
    (IsTrue now.is_authority_missing → IsTrue before.is_authority_missing) →
    (IsTrue now.is_restriction_missing → IsTrue before.is_restriction_missing) → HoldsBrakes before → HoldsBrakes now
holds_kept before now same authority restriction held = record {
  cut_off = subst (λ (o : Orders). IsTrue o.emergency ⊎ IsTrue o.service → IsTrue o.traction_off) (sym same) held.cut_off;
  missing = λ m. subst (λ (o : Orders). IsTrue o.emergency) (sym same) (held.missing (elim m [
    | inl x ↦ inl (authority x)
    | inr x ↦ inr (restriction x)
  ]));
}

-- ---- messages over which nothing comes to be missing

pub as_before : (before now : Onboard) (message : Message) →
    misses_authority before message ≡ before.is_authority_missing →
    MissesRestriction before.supervisor message now.is_restriction_missing → IsMissingAsBefore before now →
    (HoldsBrakes before → HoldsBrakes now) → Remembers before message now
as_before before now message keeps restriction same holds = record {
  authority = same.authority ∙ sym keeps;
  restriction = restriction;
  stays = λ missing. subst IsTrue (sym same.restriction) missing;
  holds = holds;
}

-- where the orders stay
pub kept : (before now : Onboard) → now.orders ≡ before.orders → IsMissingAsBefore before now → HoldsBrakes before →
    HoldsBrakes now
kept before now orders same held =
    holds_kept before now orders (λ m. subst IsTrue same.authority m) (λ m. subst IsTrue same.restriction m) held

-- ---- an authority

pub authority_taken : (before now : Onboard) (a : Authority) →
    authority_fault before.supervisor.train_and_track.track.length_cm a ≡ None → now.is_authority_missing ≡ false →
    now.is_restriction_missing ≡ before.is_restriction_missing → now.orders ≡ before.orders →
    Remembers before (messages.Authority a) now
authority_taken before now a none is same orders = record {
  authority = is ∙ ap is_some (sym none);
  restriction = tt;
  stays = λ missing. subst IsTrue (sym same) missing;
  holds = holds_kept before now orders (λ m. let e : false ≡ now.is_authority_missing = sym is in absurd (cc))
      (λ m. subst IsTrue same m);
}

pub authority_refused : (before now : Onboard) (a : Authority) (fault : AuthorityFault) →
    authority_fault before.supervisor.train_and_track.track.length_cm a ≡ Some fault →
    IsTrue now.is_authority_missing → now.is_restriction_missing ≡ before.is_restriction_missing →
    IsBraked now.orders → Remembers before (messages.Authority a) now
authority_refused before now a fault is missing same braked = record {
  authority = missing ∙ ap is_some (sym is);
  restriction = tt;
  stays = λ missing. subst IsTrue (sym same) missing;
  holds = λ _. holds_braked now braked;
}

-- ---- a restriction

pub restriction_taken : (before now : Onboard) (r : Restriction) → TakesRestriction before.supervisor r →
    now.orders ≡ before.orders → IsMissingAsBefore before now → Remembers before (messages.Restriction r) now
restriction_taken before now r taken orders same =
    as_before before now (messages.Restriction r) refl (λ refused. absurd (refused taken)) same
    (kept before now orders same)

pub restriction_refused : (before now : Onboard) (r : Restriction) →
    now.is_authority_missing ≡ before.is_authority_missing → IsTrue now.is_restriction_missing → IsBraked now.orders →
    Remembers before (messages.Restriction r) now
restriction_refused before now r same missing braked = record {
  authority = same;
  restriction = λ _. missing;
  stays = λ _. missing;
  holds = λ _. holds_braked now braked;
}

-- ---- a change of data

pub data_taken : (before now : Onboard) (opened : Result Supervision OpeningFault) (next : Supervision) →
    opened ≡ Ok next → take_over_fault next.train_and_track.track.length_cm before.supervisor.restrictions ≡ None →
    now.is_authority_missing ≡ false → now.is_restriction_missing ≡ before.is_restriction_missing →
    now.orders ≡ before.orders → RemembersOver before opened now
data_taken before now opened next is_opened none is same orders = record {
  authority = λ refused. absurd (refused (subst (IsTakenOver before.supervisor) (sym is_opened) none));
  stays = λ missing. subst IsTrue (sym same) missing;
  holds = holds_kept before now orders (λ m. absurd (cc)) (λ m. subst IsTrue same m);
}

pub data_refused : (before now : Onboard) (opened : Result Supervision OpeningFault) → IsTrue now.is_authority_missing →
    now.is_restriction_missing ≡ before.is_restriction_missing → IsBraked now.orders → RemembersOver before opened now
data_refused before now opened missing same braked = record {
  authority = λ _. missing;
  stays = λ missing. subst IsTrue (sym same) missing;
  holds = λ _. holds_braked now braked;
}
