-- What a supervisor sees at a reading before it judges (own).
use Rattle.std.specs.Prelude.{◌≡◌, ℕ, Bool, ◌≤◌, All, IfSome, List, Option, filter, length, map, option_map, nat_lt}
use Rattle.sdm_num.specs.Fractions.{Fraction, whole}
use Rattle.sdm_num.specs.Readings.{Estimate, OdometerReading}
use Rattle.sdm_rules.specs.declared.limits.LimitKind.{LimitKind}
use Rattle.sdm_rules.specs.declared.targets.Target.{Target}
use Rattle.sdm_rules.specs.Data.{TrainAndTrack}
use Rattle.sdm_rules.specs.Display.{first_least}
use Rattle.sdm_rules.specs.Limits.{computed, limits_of}
use Rattle.sdm_rules.specs.Ranges.{top_kmh}
use Rattle.sdm_rules.specs.Supervision.{Supervision, situation_of}
use Rattle.sdm_rules.specs.Targets.{target_speed}
use Rattle.sdm_rules.specs.Triggers.{Situation, some_passed}
use Rattle.sdm_hiding.specs.Hiding.{AreInOrder}
use Rattle.sdm_braking.specs.declared.kept_ends.KeptEnd.{KeptEnd}
use Rattle.sdm_braking.specs.FallFeet.{AreHidden, brake_foot}
use Rattle.sdm_braking.specs.KeptCurves.{AreKept}
use Rattle.sdm_braking.specs.KeptFalls.{IsKeptFall, KeptFallData}
use Rattle.sdm_supervisor.specs.declared.shown.Counting.{Counting}

-- the train and the track, a reading, and what the triggers look at there
pub record Seen : Type 0 where
  pub train_and_track : TrainAndTrack
  pub reading : OdometerReading
  pub situation : Situation

-- what is seen in a supervision state at a reading
abbrev pub seen_at : Supervision → OdometerReading → Seen
seen_at s r = record { train_and_track = s.train_and_track; reading = r; situation = situation_of s r }

-- the falls ahead and the targets at the end of the authority stand beside their curves; the ceiling and the release
-- speed are at most 500 km/h (ranges own)
pub record IsSight (d : TrainAndTrack) (ceiling_kmh : ℕ) (release_kmh : Option ℕ) (ahead : List KeptFallData)
    (last : KeptEnd) : Type 0 where
  pub ceiling : ceiling_kmh ≤ top_kmh
  pub release : IfSome release_kmh (λ kmh. kmh ≤ top_kmh)
  pub falls : All (IsKeptFall d) ahead
  pub end : AreKept d last

-- one of these targets is passed by its limit of a kind, by the computed limits of an estimate, all else as it is seen
-- (SUBSET-026-3 3.13.10.4; own)
abbrev pub some_target_passed : LimitKind → Seen → Estimate → List Target → Bool
some_target_passed kind seen e ts =
    some_passed kind (limits_of computed seen.train_and_track e) 0
    (record seen.situation { speed = e.speed; targets = ts })

-- the falls ahead stand in order, and of each it is known how far on its curves are hidden (own)
pub record AreFallsHidden (d : TrainAndTrack) (falls : List Target) (brake_steps guide_steps : List ℕ) : Type 0 where
  pub order : AreInOrder (map brake_foot falls)
  pub hidden : AreHidden d falls brake_steps guide_steps
  pub brake_room : length falls ≤ length brake_steps
  pub guide_room : length falls ≤ length guide_steps

-- ---- the target that counts

-- what counts so far of some targets: of those that are slower than the train the first whose limit is least, with the
-- place of that limit (own)
pub record IsCounting (limit : Target → Fraction) (v : ℕ) (ts : List Target) (counting : Option Counting) : Type 0
  where
    pub first : first_least limit (filter (λ t. nat_lt (target_speed t) v) ts) ≡ option_map (λ c. c.target) counting
    pub least : IfSome counting (λ c. limit c.target ≡ whole c.permitted)
