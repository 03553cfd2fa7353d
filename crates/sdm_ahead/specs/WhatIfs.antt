-- What-if readings: what is asked of a reading that hasn't come, and what its answer says of those that come (own).
use Rattle.std.specs.Prelude.{◌≡◌, ◌⊎◌, ◌<◌, ◌≤◌, ℕ, ℤ, Bool, false, IsTrue, is_some, Contains, pos, ◌+ℤ◌, ◌≤ℤ◌, ◌<ℤ◌}
use Rattle.std.specs.List.{list_all}
use Rattle.sdm_num.specs.Readings.{OdometerReading, estimate_of}
use Rattle.sdm_rules.specs.declared.commands.State.TheVariants.{R}
use Rattle.sdm_rules.specs.declared.targets.Target.{Target}
use Rattle.sdm_rules.specs.Cells.{cell_of}
use Rattle.sdm_rules.specs.Data.{TrainAndTrack}
use Rattle.sdm_rules.specs.Limits.{v_bec_for}
use Rattle.sdm_rules.specs.Opening.{IsOpen}
use Rattle.sdm_rules.specs.Reaction.{a_est1, build_up_from, d_bec, v_est_delta0}
use Rattle.sdm_rules.specs.Stop.{IsUncoveredSpeedTarget}
use Rattle.sdm_rules.specs.Supervision.{Supervision, is_covered_for, profile_of, release_of, row_of, situation_of}
use Rattle.sdm_rules.specs.Targets.{foot_speed_of, is_fall, targets_of}

-- a reading would cover each target past a place: each fall of the MRSP that lies past it, and the end of the authority,
-- whether or not release speed monitoring has begun. Its own front end may lie past such a fall (own)
unfoldable pub would_cover_from : Supervision → ℤ → OdometerReading → Bool
would_cover_from s from asked =
    list_all (is_covered_for s.train_and_track asked.max (estimate_of asked))
    (targets_of (profile_of s) s.authority from false)

-- a reading asks no more than another: its max safe front end, V_est + V_delta0 and A_est1 are at most the other's (own)
pub record AsksNoMore (d : TrainAndTrack) (asked r : OdometerReading) : Type 0 where
  pub front : r.max ≤ℤ asked.max
  pub speed : v_est_delta0 d (estimate_of r) ≤ v_est_delta0 d (estimate_of asked)
  pub accel : a_est1 r.accel ≤ a_est1 asked.accel

-- it asks no more, and its max safe front end isn't before a place (own)
pub record AsksNoMoreFrom (d : TrainAndTrack) (from : ℤ) (asked r : OdometerReading) : Type 0 where
  pub back : from ≤ℤ r.max
  pub no_more : AsksNoMore d asked r

-- the row of the reading is covered, or in release speed monitoring (own)
abbrev pub IsCoveredOrReleased : Supervision → OdometerReading → Type 0
IsCoveredOrReleased s r = IsTrue (row_of s r).covered ⊎ ((row_of s r).state ≡ R)

-- LESS ASKED: where a what-if reading would cover each target past a place, each reading that asks no more and whose max
-- safe front end isn't before the place is covered or in release speed monitoring
abbrev pub LawOfLessAsked : Type 0
LawOfLessAsked =
    (s : Supervision) (from : ℤ) (asked r : OdometerReading) → IsOpen s → IsTrue (would_cover_from s from asked) →
    AsksNoMoreFrom s.train_and_track from asked r → IsCoveredOrReleased s r

-- outside release speed monitoring a reading is covered exactly where it would cover each target past its own front end
abbrev pub LawOfOwnFront : Type 0
LawOfOwnFront =
    (s : Supervision) (r : OdometerReading) → is_some (release_of s.train_and_track s.authority r.max) ≡ false →
    (row_of s r).covered ≡ would_cover_from s r.max r

-- the profile falls at no cell that begins past the first place and at or before the second (own)
abbrev pub HasNoFallBetween : (ℤ → ℕ) → ℤ → ℤ → Type 0
HasNoFallBetween profile from to =
    (c : ℤ) → cell_of from <ℤ c → c ≤ℤ cell_of to → is_fall profile c ≡ false

-- where the row of a what-if reading is covered, and the MRSP falls nowhere between the front ends, the row of each
-- reading that asks no more is covered
abbrev pub LawOfAskedRows : Type 0
LawOfAskedRows =
    (s : Supervision) (asked r : OdometerReading) → IsOpen s → IsTrue (row_of s asked).covered →
    AsksNoMore s.train_and_track asked r → HasNoFallBetween (profile_of s) r.max asked.max →
    IsTrue (row_of s r).covered

-- a gap of a reading, and V_bec of what was asked is above its foot speed, too (own)
pub record IsAskedGap (s : Supervision) (asked r : OdometerReading) (t : Target) : Type 0 where
  pub is_target : Contains (situation_of s r).targets t
  pub gap : IsUncoveredSpeedTarget s r t
  pub may_gain : foot_speed_of t < v_bec_for s.train_and_track (estimate_of asked) t

-- what keeps a row from being covered, where no emergency brake is commanded and the train moves outside release speed
-- monitoring: a speed target whose foot speed is below V_bec of each reading that asks no less
abbrev pub LawOfAskedGaps : Type 0
LawOfAskedGaps =
    (s : Supervision) (asked r : OdometerReading) → AsksNoMore s.train_and_track asked r →
    (row_of s r).covered ≡ false → ((row_of s r).state ≡ R → ⊥) → (row_of s r).held.eb ≡ false → 0 < r.speed →
    (t : Target) × IsAskedGap s asked r t

-- ---- by the column alone

-- two what-if readings of one estimate: the second's max safe front end is less than D_bec past the first's (own)
pub record AreWithinReach (d : TrainAndTrack) (near far : OdometerReading) : Type 0 where
  pub estimate : estimate_of near ≡ estimate_of far
  pub reach : far.max <ℤ (near.max +ℤ pos (d_bec (build_up_from d (estimate_of far)) 0))

-- each target past the first one's max safe front end would be covered by the second, so each reading is covered that asks
-- no more and whose max safe front end isn't before the first one's (own)
pub record IsAskedTwice (s : Supervision) (near far : OdometerReading) : Type 0 where
  pub would : IsTrue (would_cover_from s near.max far)
  pub covers : (r : OdometerReading) → AsksNoMoreFrom s.train_and_track near.max far r → IsTrue (row_of s r).covered

-- TWO COLUMNS: so it is where the rows of two such what-if readings are covered
abbrev pub LawOfTwoColumns : Type 0
LawOfTwoColumns =
    (s : Supervision) (near far : OdometerReading) → IsOpen s → AreWithinReach s.train_and_track near far →
    near.max ≤ℤ far.max → IsTrue (row_of s near).covered → IsTrue (row_of s far).covered → IsAskedTwice s near far
