-- What the targets of a reading say together, in the profile's own words (SUBSET-026-3 3.13.10; own).
use Rattle.std.specs.Prelude.{◌≡◌, ℕ, ℤ, pos, neg_ℤ, ◌+ℤ◌, Bool, List, Option, Some, None, option_map}
use Rattle.std.specs.Int.{int_min}
use Rattle.std.specs.List.{list_all, list_any}
use Rattle.std.specs.Option.{option_map_or}
use Rattle.sdm_num.specs.Bounds.{mm_below}
use Rattle.sdm_num.specs.Readings.{Estimate, estimate_of}
use Rattle.sdm_num.specs.Units.{distance_at}
use Rattle.sdm_rules.specs.declared.data.Times.{Times}
use Rattle.sdm_rules.specs.declared.commands.Triggers.{Triggers}
use Rattle.sdm_rules.specs.declared.limits.LimitKind.{LimitKind}
use Rattle.sdm_rules.specs.declared.limits.LimitKind.TheVariants.{Ebi, Sbi, Warning, Permitted, Indication}
use Rattle.sdm_rules.specs.declared.targets.Target.{Target}
use Rattle.sdm_rules.specs.Data.{TrainAndTrack}
use Rattle.sdm_rules.specs.Limits.{SupervisionLimits, computed, limits_of}
use Rattle.sdm_rules.specs.Reaction.{reaction_times, warning_time}
use Rattle.sdm_rules.specs.Supervision.{is_covered_for, shown_limit}
use Rattle.sdm_rules.specs.Triggers.{is_indicated, passes, triggers_of}
use Rattle.sdm_limits.specs.declared.limits.Limits.{Limits}
use Rattle.sdm_supervisor.specs.declared.nearest.Nearest.{Nearest}
use Rattle.sdm_supervisor.specs.declared.verdicts.Verdict.{Verdict}
use Rattle.sdm_supervisor.specs.Sights.{Seen}

-- the lesser of two places, where there are any (own)
abbrev pub nearer : Option ℤ → Option ℤ → Option ℤ
nearer None y = y
nearer (Some x) None = Some x
nearer (Some x) (Some y) = Some (int_min x y)

-- what triggers and an indication say of the limit of a kind (SUBSET-026-3 3.13.10; own)
abbrev pub said_of : LimitKind → Triggers → Bool → Bool
said_of Ebi triggers indicated = triggers.emer
said_of Sbi triggers indicated = triggers.serv
said_of Warning triggers indicated = triggers.warn
said_of Permitted triggers indicated = triggers.over
said_of Indication triggers indicated = indicated

-- which limits of targets are passed, by an estimate with the estimated and the max safe front end, and whether each
-- target is covered (SUBSET-026-3 3.13.10.4; own)
pub record ArePassed (d : TrainAndTrack) (e : Estimate) (est max : ℤ) (ts : List Target) (v : Verdict) : Type 0 where
  pub each : (kind : LimitKind) → said_of kind v.triggers v.indicated
      ≡ list_any (λ t. passes kind e.speed est max 0 t (limits_of computed d e t)) ts
  pub covered : v.covered ≡ list_all (is_covered_for d max e) ts

-- the nearest EBI, where there is one (own)
abbrev pub ebi_in : Option Nearest → Option ℤ
ebi_in near = option_map_or (λ n. n.ebi) near None

-- the nearest SBI, where there is one (own)
abbrev pub sbi_in : Option Nearest → Option ℤ
sbi_in near = option_map (λ n. n.sbi) near

-- the nearest permitted limit, where there is one (own)
abbrev pub permitted_in : Option Nearest → Option ℤ
permitted_in near = option_map (λ n. n.permitted) near

-- the nearest limits of some targets, with those of one more (own)
pub record IsNearer (near : Option Nearest) (l : Limits) (new : Nearest) : Type 0 where
  pub ebi : new.ebi ≡ nearer (ebi_in near) (option_map (λ ebi. ebi.at) l.ebi)
  pub sbi : Some new.sbi ≡ nearer (sbi_in near) (Some l.sbi.at)
  pub permitted : Some new.permitted ≡ nearer (permitted_in near) (Some l.permitted.at)

-- the whole millimetres up to a place that lies so many grains before another one (own)
abbrev pub mm_before : ℕ → ℤ → ℤ
mm_before k z = mm_below (z +ℤ neg_ℤ (pos k))

-- the nearest limits at a speed in notches, in whole millimetres, are those that are printed of targets: the warning
-- limit lies V_est * T_warning before the SBI, and the indication limit V_est * T_indication before the permitted
-- limit (SUBSET-026-3 3.13.9.3; own)
pub record AreNearest (times : Times) (v : ℕ) (limits : Target → SupervisionLimits) (ts : List Target)
    (near : Option Nearest) : Type 0 where
  pub ebi : option_map mm_below (ebi_in near) ≡ shown_limit v ts (λ t. (limits t).ebi)
  pub sbi : option_map mm_below (sbi_in near) ≡ shown_limit v ts (λ t. Some (limits t).sbi)
  pub warning : option_map (mm_before (distance_at v warning_time)) (sbi_in near)
      ≡ shown_limit v ts (λ t. Some (limits t).warning)
  pub permitted : option_map mm_below (permitted_in near) ≡ shown_limit v ts (λ t. Some (limits t).permitted)
  pub indication : option_map (mm_before (distance_at v times.indication)) (permitted_in near)
      ≡ shown_limit v ts (λ t. Some (limits t).indication)

-- what targets say together (SUBSET-026-3 3.13.10; own)
pub record IsSaid (d : TrainAndTrack) (e : Estimate) (est max : ℤ) (ts : List Target) (v : Verdict) : Type 0 where
  pub passed : ArePassed d e est max ts v
  pub nearest : AreNearest (reaction_times d) e.speed (limits_of computed d e) ts v.nearest

-- what is said of what is seen: what is triggered, and what its targets say (SUBSET-026-3 3.13.10; own)
pub record IsVerdictOf (seen : Seen) (v : Verdict) : Type 0 where
  pub triggers : v.triggers
      ≡ triggers_of (limits_of computed seen.train_and_track (estimate_of seen.reading)) 0 seen.situation
  pub indicated : v.indicated
      ≡ is_indicated (limits_of computed seen.train_and_track (estimate_of seen.reading)) seen.situation
  pub covered : v.covered
      ≡ list_all (is_covered_for seen.train_and_track seen.reading.max (estimate_of seen.reading))
      seen.situation.targets
  pub nearest : AreNearest (reaction_times seen.train_and_track) seen.situation.speed
      (limits_of computed seen.train_and_track (estimate_of seen.reading)) seen.situation.targets v.nearest
