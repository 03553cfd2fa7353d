-- Limits of a row near the exact ones, and what a driver is shown beside what triggers, at numbers: at 0.2 m/s the EBI of
-- the SvL at 11 m is 10.92 m, since the train goes 6 cm until its brake works and then 2 cm.
use Rattle.std.proofs.Common.{◌≡◌, ℕ, ℤ, pos, true, length, [], ◌∷◌, Some, refl, subst, sym, ◌∙◌, arith}
use Rattle.std.specs.Prelude.{Ok}
use Rattle.std.proofs.lemmas.Int.{ints}
use Rattle.sdm_num.specs.Units.{notches, place_of_mm}
use Rattle.sdm_num.specs.Fractions.{Fraction, IsAtMost, whole}
use Rattle.sdm_num.specs.Readings.{OdometerReading, estimate_of}
use Rattle.sdm_rules.specs.declared.display.LimitName.TheVariants.{Ebi, Permitted, Sbi}
use Rattle.sdm_rules.specs.declared.limits.LimitKind.TheVariants as kinds
use Rattle.sdm_rules.specs.declared.records.Event.TheVariants as record_kinds
use Rattle.sdm_rules.specs.declared.targets.Target.{Target}
use Rattle.sdm_rules.specs.Display.{estimate_at}
use Rattle.sdm_rules.specs.Limits.{computed, exact_places, limits_of}
use Rattle.sdm_rules.specs.Records.{journey_from, step}
use Rattle.sdm_rules.specs.Supervision.{after_reading, row_of, situation_of}
use Rattle.sdm_laws.specs.CurveLaws.{slack_of}
use Rattle.sdm_laws.specs.PrintedLimits.{IsPrinted, IsPrintedOf}
use Rattle.sdm_laws.specs.SupervisionLaws.{AreJustBeforeIfAny}
use Rattle.sdm_row_laws.specs.NearLimits.{AreWithinIfAny, at_kmh}
use Rattle.sdm_row_laws.specs.OpenTurns.{AreTurnsPromised, HasNearLimits}
use Rattle.sdm_row_laws.specs.ShownTriggers.{triggers_at, would_pass}
use Rattle.sdm_cases.proofs.RowPromiseCases.{before, line, turn_at}

-- what a command says of a journey of one reading
abbrev IsPromisedOf : OdometerReading → Type 0
IsPromisedOf r = AreTurnsPromised (journey_from (λ n e. Ok e) 1 before (record_kinds.Read r ∷ [])).turns

-- it says that the limits of the reading are near the exact ones
first_near : (r : OdometerReading) → IsPromisedOf r → HasNearLimits before r
unfolding turn_at after_reading step
first_near r h = h.limits 0 (turn_at before r) (omega arith)

-- so each computed SBI lies just before the exact one
sbi_near : (r : OdometerReading) → IsPromisedOf r → (t : Target) →
    AreJustBeforeIfAny
    (Some (limits_of computed before.train_and_track (estimate_of r) t).sbi)
    (Some (limits_of exact_places before.train_and_track (estimate_of r) t).sbi)
sbi_near r h t = ((first_near r h).computed.early.limits t).each kinds.Sbi

-- the train has two bands: in the first a grain is lost, in the second at most sixteen times as much and a further grain
two_bands : slack_of (length before.train_and_track.train.bands) ≡ 17
unfolding line
two_bands = refl

-- so the computed SBI lies at most 17 grains before the exact one
sbi_within_17 : (r : OdometerReading) → IsPromisedOf r → (t : Target) →
    AreWithinIfAny 17
    (Some (limits_of computed before.train_and_track (estimate_of r) t).sbi)
    (Some (limits_of exact_places before.train_and_track (estimate_of r) t).sbi)
sbi_within_17 r h t =
    subst (λ (g : ℕ). AreWithinIfAny g
    (Some (limits_of computed before.train_and_track (estimate_of r) t).sbi)
    (Some (limits_of exact_places before.train_and_track (estimate_of r) t).sbi)) two_bands
    ((first_near r h).computed.within.limits t kinds.Sbi)

-- the limits that are asked for at another speed are those of the reading with this speed
asked_at : (r : OdometerReading) (kmh : ℕ) → estimate_of (at_kmh kmh r) ≡ estimate_at (notches kmh) r
asked_at r kmh = refl

-- of which the SBI lies just before the exact one, too, at each speed as which it may be shown
sbi_near_at : (r : OdometerReading) → IsPromisedOf r → (kmh : ℕ) (t : Target) →
    AreJustBeforeIfAny
    (Some (limits_of computed before.train_and_track (estimate_at (notches kmh) r) t).sbi)
    (Some (limits_of exact_places before.train_and_track (estimate_at (notches kmh) r) t).sbi)
sbi_near_at r h kmh t = (((first_near r h).at_speeds kmh).early.limits t).each kinds.Sbi

-- and where an EBI is printed, it is the exact one of no target that it is printed of by more than is left by rounding
ebi_printed : (r : OdometerReading) → IsPromisedOf r → (mm : ℤ) → (row_of before r).ebi ≡ Some mm →
    (t : Target) (x : Fraction) →
    IsPrintedOf (situation_of before r) (λ t. (limits_of exact_places before.train_and_track (estimate_of r) t).ebi) t x →
    IsAtMost (whole (place_of_mm mm)) x
ebi_printed r h mm is t x printed =
    (subst (IsPrinted (situation_of before r)
    (λ t. (limits_of exact_places before.train_and_track (estimate_of r) t).ebi)) is (first_near r h).printed.ebi).not_past
    t x printed

-- a place printed a millimetre past the exact one isn't at most it
a_millimetre_past : IsAtMost (whole (place_of_mm (pos 10_921))) (whole (place_of_mm (pos 10_920))) → ⊥
a_millimetre_past h = let k = h.crossed in omega (arith, ints, k)

-- ---- what is shown, at 1 km/h

-- where the SBI is passed at the reading's own speed, it triggers
serves_as_shown : (r : OdometerReading) → r.speed ≡ notches 1 → IsPromisedOf r → would_pass before r Sbi 1 ≡ true →
    (triggers_at before r).serv ≡ true
unfolding turn_at after_reading step
serves_as_shown r fast h passed = (h.shown 0 (turn_at before r) (omega arith) 1 (sym fast)).serv ∙ passed

-- and where it triggers over the permitted speed, this is passed
shown_as_over : (r : OdometerReading) → r.speed ≡ notches 1 → IsPromisedOf r → (triggers_at before r).over ≡ true →
    would_pass before r Permitted 1 ≡ true
unfolding turn_at after_reading step
shown_as_over r fast h over = sym (h.shown 0 (turn_at before r) (omega arith) 1 (sym fast)).over ∙ over

-- where the EBI is passed it is an emergency
emergency_as_shown : (r : OdometerReading) → r.speed ≡ notches 1 → IsPromisedOf r → would_pass before r Ebi 1 ≡ true →
    (triggers_at before r).emer ≡ true
unfolding turn_at after_reading step
emergency_as_shown r fast h passed =
    (h.shown 0 (turn_at before r) (omega arith) 1 (sym fast)).emer ∙ (rw passed refl)
