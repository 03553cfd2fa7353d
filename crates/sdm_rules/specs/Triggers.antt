-- The triggers of commands (SUBSET-026-3 3.13.10; own tables). A target triggers a command if the train is above its
-- speed and past the command's limit. Each limit is taken `shift` grains earlier than given.
use Rattle.std.specs.Prelude.{ℕ, ℤ, pos, Bool, not, ◌&&◌, ◌||◌, List, Option, false, ◌+◌, ◌+ℤ◌, ◌*ℤ◌, nat_lt, int_lt}
use Rattle.std.specs.List.{list_any}
use Rattle.std.specs.Option.{option_map_or}
use Rattle.sdm_num.specs.Units.{notches}
use Rattle.sdm_num.specs.Fractions.{Fraction}
use Rattle.sdm_rules.specs.declared.commands.Triggers.{Triggers}
use Rattle.sdm_rules.specs.declared.limits.LimitKind.{LimitKind}
use Rattle.sdm_rules.specs.declared.limits.LimitKind.TheVariants.{Ebi, Sbi, Warning, Permitted, Indication}
use Rattle.sdm_rules.specs.declared.targets.TargetKind.{TargetKind}
use Rattle.sdm_rules.specs.declared.targets.TargetKind.TheVariants.{Mrsp, Loa, Eoa, Svl}
use Rattle.sdm_rules.specs.declared.targets.Target.{Target}
use Rattle.sdm_rules.specs.Margins.{margin_of}
use Rattle.sdm_rules.specs.Targets.{with_margin}
use Rattle.sdm_rules.specs.Limits.{SupervisionLimits, limit_in}

-- what the triggers look at, beside the limits (own)
pub record Situation : Type 0 where
  pub speed : ℕ  -- V_est, notches
  pub ceiling_kmh : ℕ  -- the ceiling M, km/h
  pub est : ℤ  -- the estimated front end, grains
  pub front : ℤ  -- the max safe front end, grains
  pub targets : List Target
  pub past_end : Bool  -- the authority has an EOA, and the min safe front end is past it
  pub release : Option ℕ  -- in release speed monitoring the release speed V_rel, km/h
  pub in_use : Bool  -- the service brake is in use

-- the front end is past a limit that is taken `shift` grains earlier (own)
abbrev pub is_past : ℕ → ℤ → Fraction → Bool
is_past shift front limit = int_lt limit.n (pos limit.m *ℤ (front +ℤ pos shift))

-- the front end that a target compares: the estimated one for the EOA, else the max safe one (SUBSET-026-3 3.13.10.4)
abbrev pub front_for : ℤ → ℤ → TargetKind → ℤ
front_for est max Eoa = est
front_for est max Svl = max
front_for est max Mrsp = max
front_for est max Loa = max

-- a target is passed by its limit of a kind, where it has one: the speed is above the target's with the limit's margin,
-- and the front end that the target compares is past the limit (SUBSET-026-3 3.13.10.4; own)
abbrev pub passes : LimitKind → ℕ → ℤ → ℤ → ℕ → Target → SupervisionLimits → Bool
passes kind speed est max shift t limits =
    nat_lt (with_margin (margin_of kind) t) speed
    && option_map_or (is_past shift (front_for est max t.kind)) (limit_in kind limits) false

-- some target is passed by its limit of a kind (own)
abbrev pub some_passed : LimitKind → (Target → SupervisionLimits) → ℕ → Situation → Bool
some_passed kind limits shift s = list_any (λ t. passes kind s.speed s.est s.front shift t (limits t)) s.targets

-- the speed is above the ceiling with the margin of a limit (SUBSET-026-3 3.13.10.3)
abbrev pub above_ceiling : LimitKind → Situation → Bool
above_ceiling kind s = nat_lt (notches s.ceiling_kmh + margin_of kind s.ceiling_kmh) s.speed

-- in release speed monitoring the speed is above the release speed (SUBSET-026-3 3.13.10.5)
abbrev pub above_release : Situation → Bool
above_release s = option_map_or (λ kmh. nat_lt (notches kmh) s.speed) s.release false

-- the limit of a kind is passed: that of the ceiling or of a target (SUBSET-026-3 3.13.10; own table)
abbrev pub is_passed : LimitKind → (Target → SupervisionLimits) → ℕ → Situation → Bool
is_passed kind limits shift s = above_ceiling kind s || some_passed kind limits shift s

-- an emergency: an EBI is passed, the min safe front end is past the EOA, the speed is above the release speed, or an
-- SBI is passed with no service brake in use (SUBSET-026-3 3.13.10; own table)
abbrev pub is_emergency : (Target → SupervisionLimits) → ℕ → Situation → Bool
is_emergency limits shift s =
    is_passed Ebi limits shift s || s.past_end || above_release s || (is_passed Sbi limits shift s && not s.in_use)

-- the triggers: above the permitted speed, which may be the release speed, past a warning limit, past an SBI, and an
-- emergency (SUBSET-026-3 3.13.10; own tables)
unfoldable pub triggers_of : (Target → SupervisionLimits) → ℕ → Situation → Triggers
triggers_of limits shift s = record {
  over = is_passed Permitted limits shift s || above_release s;
  warn = is_passed Warning limits shift s;
  serv = is_passed Sbi limits shift s;
  emer =
      is_emergency limits shift s;
}

-- target speed monitoring: some target's indication limit is passed (SUBSET-026-3 3.13.10.4; own)
abbrev pub is_indicated : (Target → SupervisionLimits) → Situation → Bool
is_indicated limits s = some_passed Indication limits 0 s
