-- The supervision state, and the row and the commands that it gives at a reading (SUBSET-026-3 3.13.10; rows own).
use Rattle.std.specs.Prelude.{ℕ, ℤ, pos, Bool, true, false, not, ◌&&◌, ◌||◌, List, [], ◌∷◌, Option, Some, None, fold}
use Rattle.std.specs.Prelude.{filter, filter_map, option_map, nat_le, nat_lt, ◌==◌, int_lt, is_some, if◌then◌else◌}
use Rattle.std.specs.Int.{int_min}
use Rattle.std.specs.List.{list_all}
use Rattle.std.specs.Option.{option_map_or}
use Rattle.std.specs.Ordering.{nat_cmp}
use Rattle.std.specs.FinMap as finite
use Rattle.sdm_num.specs.Fractions.{Fraction, floor}
use Rattle.sdm_num.specs.Bounds.{mm_below}
use Rattle.sdm_rules.specs.declared.authorities.Authority.{Authority}
use Rattle.sdm_rules.specs.declared.authorities.Authority.TheVariants.{Stop, Limit}
use Rattle.sdm_rules.specs.declared.limits.LimitKind.{LimitKind}
use Rattle.sdm_rules.specs.declared.limits.LimitKind.TheVariants.{Ebi, Sbi, Warning, Permitted, Indication}
use Rattle.sdm_rules.specs.declared.targets.TargetKind.{TargetKind}
use Rattle.sdm_rules.specs.declared.targets.TargetKind.TheVariants.{Mrsp, Loa, Eoa, Svl}
use Rattle.sdm_rules.specs.declared.targets.Target.{Target}
use Rattle.sdm_rules.specs.declared.restrictions.Restriction.{Restriction}
use Rattle.sdm_rules.specs.declared.commands.State.{State}
use Rattle.sdm_rules.specs.declared.commands.State.TheVariants.{C, T, R}
use Rattle.sdm_rules.specs.declared.commands.Held.{Held}
use Rattle.sdm_rules.specs.declared.rows.Row.{Row}
use Rattle.sdm_rules.specs.Cells.{place_of_cell}
use Rattle.sdm_num.specs.Readings.{Estimate, OdometerReading, estimate_of}
use Rattle.sdm_rules.specs.Data.{TrainAndTrack}
use Rattle.sdm_rules.specs.Profile.{mrsp, lowest_between}
use Rattle.sdm_rules.specs.Targets.{targets_of, target_speed, foot_speed_of}
use Rattle.sdm_rules.specs.Reaction.{service_in_use}
use Rattle.sdm_rules.specs.Limits.{computed, limit_in, limits_of, release_start, v_bec_for}
use Rattle.sdm_rules.specs.Triggers.{Situation, is_past, triggers_of, is_indicated}
use Rattle.sdm_rules.specs.Commands.{commands_after, nothing_held}

-- what a supervisor holds: the data, the authority, the temporary restrictions by identity, the time of the last
-- reading in ds, and the commands with the status (own)
pub record Supervision : Type 0 where
  pub train_and_track : TrainAndTrack
  pub authority : Authority
  pub restrictions : finite.FinMap nat_cmp Restriction
  pub last_time : Option ℕ
  pub commands : Held

-- the supervision state after the opening: no restriction, no reading and no command (own)
abbrev pub opening : TrainAndTrack → Authority → Supervision
opening d a = record {
  train_and_track = d;
  authority = a;
  restrictions = finite.empty;
  last_time = None;
  commands = nothing_held;
}

-- the MRSP in force, in km/h by cell (SUBSET-026-3 3.13.7)
abbrev pub profile_of : Supervision → ℤ → ℕ
profile_of s = mrsp s.train_and_track.train s.train_and_track.track (finite.values s.restrictions)

-- the release speed in km/h, where there is one and the max safe front end is past the start of release speed
-- monitoring, by the computed places (SUBSET-026-3 3.13.10.5; own)
abbrev pub release_of : TrainAndTrack → Authority → ℤ → Option ℕ
release_of d (Stop eoa svl release) front =
    if nat_lt 0 release && is_past 0 front (release_start computed d eoa svl release) then Some release else None
release_of d (Limit loa speed) front = None

-- the min safe front end is past the EOA (SUBSET-026-3 3.13.10; own)
abbrev pub is_past_end : Authority → ℤ → Bool
is_past_end (Stop eoa svl release) min = int_lt (place_of_cell (pos eoa)) min
is_past_end (Limit loa speed) min = false

-- what the triggers look at, for a state and a reading (own)
unfoldable pub situation_of : Supervision → OdometerReading → Situation
situation_of s r =
    let release = release_of s.train_and_track s.authority r.max in
    record {
      speed = r.speed;
      ceiling_kmh = lowest_between (profile_of s) r.min r.max;
      est = r.est;
      front = r.max;
      targets = targets_of (profile_of s) s.authority r.max (is_some release);
      past_end = is_past_end s.authority r.min;
      release = release;
      in_use = service_in_use s.train_and_track;
    }

-- the type of speed and distance monitoring; release speed monitoring is decided first (SUBSET-026-3 3.13.10.6; own)
unfoldable pub state_in : TrainAndTrack → OdometerReading → Situation → State
state_in d r now =
    if is_some now.release then R else if is_indicated (limits_of computed d (estimate_of r)) now then T else C

-- the commands after a reading, from the commands that are held, by the computed limits (SUBSET-026-3 3.13.10)
unfoldable pub commands_in : TrainAndTrack → Held → OdometerReading → Situation → Held
commands_in d held r now =
    commands_after held (triggers_of (limits_of computed d (estimate_of r)) 0 now) (state_in d r now)
    (r.speed == 0) d.national.early_release now.in_use

-- ---- the row

-- a place rounded down to whole millimetres (own)
abbrev pub whole_mm : Fraction → ℤ
whole_mm x = mm_below (floor x)

-- the least of the places, if there is one (own)
abbrev pub least_of : List ℤ → Option ℤ
least_of [] = None
least_of (x ∷ xs) = Some (fold int_min x xs)

-- a printed limit: the least over the targets whose speed is at most the train's, in mm (own)
abbrev pub shown_limit : ℕ → List Target → (Target → Option Fraction) → Option ℤ
shown_limit speed ts limit =
    least_of (filter_map (λ t. option_map whole_mm (limit t)) (filter (λ t. nat_le (target_speed t) speed) ts))

-- a target of kind Mrsp or Loa is met by speed where V_bec is at most its foot speed: the train need not brake for it
-- (own)
abbrev pub is_met_by_speed : TargetKind → ℕ → ℕ → Bool
is_met_by_speed Mrsp bec foot = nat_le bec foot
is_met_by_speed Loa bec foot = nat_le bec foot
is_met_by_speed Eoa bec foot = false
is_met_by_speed Svl bec foot = false

-- the front end is at or before the target's computed EBI, or the target is met by speed (own)
abbrev pub is_covered_for : TrainAndTrack → ℤ → Estimate → Target → Bool
is_covered_for d front e t =
    option_map_or (λ ebi. not (is_past 0 front ebi) || is_met_by_speed t.kind (v_bec_for d e t) (foot_speed_of t))
    (limits_of computed d e t).ebi true

-- covered: the state isn't R, and each target with an EBI has the max safe front end at or before its computed EBI, or
-- V_bec at most its foot speed. Then `IsSafe` is promised, of every motion that brakes from T_traction + T_berem after
-- the reading on; else no stop is promised (own)
unfoldable pub is_covered_in : TrainAndTrack → OdometerReading → Situation → Bool
is_covered_in d r now = not (is_some now.release) && list_all (is_covered_for d r.max (estimate_of r)) now.targets

-- the row of a reading in a situation (own)
unfoldable pub row_in : TrainAndTrack → Held → OdometerReading → Situation → Row
row_in d held r now =
    let limits = limits_of computed d (estimate_of r) in
    let shown = λ (kind : LimitKind). shown_limit now.speed now.targets (λ t. limit_in kind (limits t)) in
    record {
      time = r.time;
      state = state_in d r now;
      held = commands_in d held r now;
      covered = is_covered_in d r now;
      ceiling = now.ceiling_kmh;
      ebi = shown Ebi;
      sbi = shown Sbi;
      warning = shown Warning;
      permitted = shown Permitted;
      indication = shown Indication;
    }

-- the row of a reading (own)
abbrev pub row_of : Supervision → OdometerReading → Row
row_of s r = row_in s.train_and_track s.commands r (situation_of s r)

-- ---- after a record

-- the supervision state after an accepted reading (own)
unfoldable pub after_reading : Supervision → OdometerReading → Supervision
after_reading s r =
    record s { last_time = Some r.time; commands = commands_in s.train_and_track s.commands r (situation_of s r) }

-- the supervision state after an accepted authority; no command changes (own)
abbrev pub after_authority : Supervision → Authority → Supervision
after_authority s a = record s { authority = a }

-- the supervision state after an accepted restriction (own)
abbrev pub after_restriction : Supervision → Restriction → Supervision
after_restriction s r = record s { restrictions = finite.insert s.restrictions r.id r }

-- the supervision state after an accepted revocation (own)
abbrev pub after_revocation : Supervision → ℕ → Supervision
after_revocation s id = record s { restrictions = finite.remove s.restrictions id }
