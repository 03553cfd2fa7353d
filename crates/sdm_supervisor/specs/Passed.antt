-- What the targets of a sight say of causes (own).
use Rattle.std.specs.Prelude.{◌≡◌, List, Option}
use Rattle.sdm_num.specs.Readings.{Estimate}
use Rattle.sdm_rules.specs.declared.limits.LimitKind.{LimitKind}
use Rattle.sdm_rules.specs.declared.limits.LimitKind.TheVariants.{Ebi, Sbi, Warning, Permitted}
use Rattle.sdm_rules.specs.declared.targets.Target.{Target}
use Rattle.sdm_rules.specs.Limits.{computed, limits_of}
use Rattle.sdm_causes.specs.declared.causes.PassedTarget.{PassedTarget}
use Rattle.sdm_causes.specs.Causes.{told_first}
use Rattle.sdm_supervisor.specs.declared.causes.FirstPassed.{FirstPassed}
use Rattle.sdm_supervisor.specs.Sights.{Seen}

-- what is told of the first of these targets that is passed by its limit of a kind, by the computed limits of an
-- estimate, all else as it is seen (SUBSET-026-3 3.13.10.4; own)
abbrev pub first_among : LimitKind → Seen → Estimate → List Target → Option PassedTarget
first_among kind seen e ts =
    told_first kind (limits_of computed seen.train_and_track e)
    (record seen.situation { speed = e.speed; targets = ts })

-- of each kind what is told of the first of these targets that is passed (own)
pub record AreFirst (seen : Seen) (e : Estimate) (ts : List Target) (first : FirstPassed) : Type 0 where
  pub permitted : first.permitted ≡ first_among Permitted seen e ts
  pub warning : first.warning ≡ first_among Warning seen e ts
  pub sbi : first.sbi ≡ first_among Sbi seen e ts
  pub ebi : first.ebi ≡ first_among Ebi seen e ts
