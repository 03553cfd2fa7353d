-- What follows from the two laws of causes alone: of triggers with no cause and with one, and of a command.
use Rattle.std.proofs.Common.{◌≡◌, Bool, true, false, ap, sym, ◌∙◌, [], ◌∷◌, Option, Some, None, is_some}
use Rattle.std.proofs.lemmas.Bool.{false≢true}
use Rattle.sdm_rules.specs.declared.commands.Held.{Held as Commands}
use Rattle.sdm_rules.specs.declared.commands.Status.TheVariants.{N}
use Rattle.sdm_rules.specs.declared.commands.Triggers.{Triggers}
use Rattle.sdm_rules.specs.declared.targets.Target.{Target}
use Rattle.sdm_rules.specs.Limits.{SupervisionLimits}
use Rattle.sdm_rules.specs.Triggers.{Situation, triggers_of}
use Rattle.sdm_causes.specs.declared.causes.Cause.{Cause}
use Rattle.sdm_causes.specs.declared.causes.Cause.TheVariants.{Ceiling}
use Rattle.sdm_causes.specs.declared.causes.Causes.{Causes}
use Rattle.sdm_causes.specs.declared.causes.Standing.{Standing}
use Rattle.sdm_causes.specs.declared.causes.Standing.TheVariants.{Off, Set, Held}
use Rattle.sdm_causes.specs.declared.causes.Until.{Until}
use Rattle.sdm_causes.specs.declared.causes.Until.TheVariants.{PermittedSpeed, Standstill}
use Rattle.sdm_causes.specs.Causes.{emer_by, over_by, serv_by, warn_by}
use Rattle.sdm_causes.specs.CauseLaws.{AreCaused, AreExplained, IsExplained, is_held}

-- ---- triggers

-- triggers that all hold, or none
all_triggers : Bool → Triggers
all_triggers holds = record { over = holds; warn = holds; serv = holds; emer = holds }

module _ (limits : Target → SupervisionLimits) (s : Situation) (are : AreCaused limits s) where
  -- with no cause no trigger holds
  none_holds : over_by limits s ≡ None → warn_by limits s ≡ None → serv_by limits s ≡ None → emer_by limits s ≡ None →
      triggers_of limits 0 s ≡ all_triggers false
  unfolding all_triggers
  none_holds over warn serv emer = λ k. record {
    over = (sym are.over ∙ ap is_some over) k;
    warn = (sym are.warn ∙ ap is_some warn) k;
    serv = (sym are.serv ∙ ap is_some serv) k;
    emer = (sym are.emer ∙ ap is_some emer) k;
  }

  -- with a cause of each all hold
  all_hold : over_by limits s ≡ Some Ceiling → warn_by limits s ≡ Some Ceiling → serv_by limits s ≡ Some Ceiling →
      emer_by limits s ≡ Some Ceiling → triggers_of limits 0 s ≡ all_triggers true
  unfolding all_triggers
  all_hold over warn serv emer = λ k. record {
    over = (sym are.over ∙ ap is_some over) k;
    warn = (sym are.warn ∙ ap is_some warn) k;
    serv = (sym are.serv ∙ ap is_some serv) k;
    emer = (sym are.emer ∙ ap is_some emer) k;
  }

-- ---- a command

-- one with a cause is commanded
caused_is_commanded : (commanded was stopped over : Bool) (release : Until) (how : Standing) →
    IsExplained commanded was true stopped over release how → commanded ≡ true
caused_is_commanded commanded was stopped over release Off is = absurd (false≢true is.set)
caused_is_commanded commanded was stopped over release Set is = is.commanded
caused_is_commanded commanded was stopped over release (Held until) is = is.commanded

-- one that isn't commanded has no cause
uncommanded_has_none : (was caused stopped over : Bool) (release : Until) (how : Standing) →
    IsExplained false was caused stopped over release how → caused ≡ false
uncommanded_has_none was caused stopped over release Off is = sym is.set
uncommanded_has_none was caused stopped over release Set is = absurd (false≢true is.commanded)
uncommanded_has_none was caused stopped over release (Held until) is = sym is.set

-- one with no cause that wasn't commanded before isn't commanded
not_held_from_nothing : (commanded stopped over : Bool) (release : Until) (how : Standing) →
    IsExplained commanded false false stopped over release how → commanded ≡ false
not_held_from_nothing commanded stopped over release Off is = is.commanded
not_held_from_nothing commanded stopped over release Set is = absurd (false≢true (sym is.set))
not_held_from_nothing commanded stopped over release (Held until) is = absurd (false≢true (sym is.held))

-- ---- the three commands

-- all three are commanded
all_commanded : Commands
all_commanded = record { tco = true; sb = true; eb = true; status = N }

-- no cause but one of over, or none, with three commands that stand so
why : Option Cause → Standing → Standing → Standing → Causes
why over tco sb eb =
    record { time = 0; over = over; warn = None; serv = None; emer = None; tco = tco; sb = sb; eb = eb }

module _ (after : Commands) (tco sb eb : Standing) where
  -- at a moving train above the permitted speed all are held, and each is told with what releases it
  all_are_held : AreExplained all_commanded after true false false (why (Some Ceiling) tco sb eb) →
      tco ∷ sb ∷ eb ∷ [] ≡ Held PermittedSpeed ∷ Held PermittedSpeed ∷ Held Standstill ∷ []
  unfolding all_commanded why
  all_are_held is = λ k. is.tco.until is.tco.held k ∷ is.sb.until is.sb.held k ∷ is.eb.until is.eb.held k ∷ []

  -- with no service brake in use that command isn't told as held
  none_in_use : AreExplained all_commanded after false false false (why (Some Ceiling) tco sb eb) →
      is_held sb ≡ false
  unfolding all_commanded why
  none_in_use is = is.sb.held

  -- within the permitted speed the emergency command of a moving train is held, with no early release
  held_within : AreExplained all_commanded after true false false (why None tco sb eb) →
      is_held tco ∷ is_held sb ∷ is_held eb ∷ [] ≡ false ∷ false ∷ true ∷ []
  unfolding all_commanded why
  held_within is = λ k. is.tco.held k ∷ is.sb.held k ∷ is.eb.held k ∷ []

  -- and with early release it isn't
  released_within : AreExplained all_commanded after true false true (why None tco sb eb) → is_held eb ≡ false
  unfolding all_commanded why
  released_within is = is.eb.held
