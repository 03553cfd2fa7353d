-- At the reading's own speed the limits, and what the triggers look at, are those of the reading. What differs is the
-- order of the causes of an emergency, and that the release speed is no SBI.
use Rattle.std.proofs.Common.{◌≡◌, Bool, true, false, refl, ◌&&◌, ◌||◌}
use Rattle.std.specs.Prelude.{not}
use Rattle.sdm_num.specs.Readings.{estimate_of}
use Rattle.sdm_rules.specs.declared.limits.LimitKind.TheVariants.{Ebi, Sbi}
use Rattle.sdm_rules.specs.Display.{passes_limit}
use Rattle.sdm_rules.specs.Limits.{computed, limits_of}
use Rattle.sdm_rules.specs.Supervision.{situation_of}
use Rattle.sdm_rules.specs.Triggers.{above_release, is_passed, triggers_of}
use Rattle.sdm_row_laws.specs.ShownTriggers.{LawOfShownTriggers}

-- where the release speed doesn't count, the limit alone does
alone : (passed : Bool) → passed ≡ (passed || false)
alone true = refl
alone false = refl

-- the causes of an emergency in either order
either_order : (ebi past release sbi unused : Bool) →
    (ebi || past || release || (sbi && unused)) ≡ ((ebi || release) || past || ((sbi || false) && unused))
either_order true past release sbi unused = refl
either_order false true true sbi unused = refl
either_order false true false sbi unused = refl
either_order false false true sbi unused = refl
either_order false false false true unused = refl
either_order false false false false unused = refl

pub shown_triggers : LawOfShownTriggers
unfolding passes_limit situation_of triggers_of
shown_triggers s r kmh same =
    let limits = limits_of computed s.train_and_track (estimate_of r) in
    let now = situation_of s r in
    record {
      over = rw same refl;
      serv = rw same (alone (is_passed Sbi limits 0 now));
      emer = rw same (either_order (is_passed Ebi limits 0 now) now.past_end (above_release now)
          (is_passed Sbi limits 0 now) (not now.in_use));
    }
