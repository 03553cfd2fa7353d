-- The trial's data are accepted: the track falls by at most 5 per mille and never rises, so each slope is what the
-- brakes give less what 5 per mille or less take. All slopes lie between two numbers, of which the greater is 2.3
-- times the lesser.
use Rattle.std.proofs.Common.{◌≡◌, ℕ, zero, suc, ℤ, pos, negsuc, Bool, true, false, None, if◌then◌else◌, ◌<◌, ◌≤◌}
use Rattle.std.proofs.Common.{◌+ℤ◌, ◌*ℤ◌, ◌≤ℤ◌, int_le, unsigned_abs, slice_get, refl, arith}
use Rattle.std.specs.Int.{int_min, is_negative}
use Rattle.std.specs.Option.{option_map_or}
use Rattle.std.proofs.lemmas.Int.{ints, clamps}
use Rattle.sdm_rules.specs.declared.data.SlopeKind.{SlopeKind}
use Rattle.sdm_rules.specs.declared.data.SlopeKind.TheVariants.{Safe, Expected, Normal}
use Rattle.sdm_rules.specs.Cells.{lowest}
use Rattle.sdm_rules.specs.Data.{TrainAndTrack}
use Rattle.sdm_rules.specs.Decelerations.{a_gradient, track_gradient, slope_at, slope_under}
use Rattle.sdm_rules.specs.Opening.{IsAccepted, IsAcceptedKind}
use Rattle.sdm_formats.specs.Trial.{trial_authority, trial_train_and_track, trial_train, trial_track}

-- ---- the gradients

-- a gradient from 5 per mille downhill to level
record IsGentle (grad : ℤ) : Type 0 where
  low : negsuc 49 ≤ℤ grad
  high : grad ≤ℤ pos 0

-- one of two gentle gradients is gentle
pick_gentle : (b : Bool) (x y : ℤ) → IsGentle x → IsGentle y → IsGentle (if b then x else y)
pick_gentle true x y h k = h
pick_gentle false x y h k = k

-- the lower of two gentle gradients is gentle
min_gentle : (x y : ℤ) → IsGentle x → IsGentle y → IsGentle (int_min x y)
min_gentle x y h k = record { low = omega (arith, ints, clamps); high = omega (arith, ints, clamps) }

-- the lowest of gentle gradients is gentle
lowest_gentle : (f : ℤ → ℤ) → ((cell : ℤ) → IsGentle (f cell)) → (n : ℕ) (cell : ℤ) → IsGentle (lowest int_min f cell n)
lowest_gentle f each zero cell = each cell
lowest_gentle f each (suc n) cell = min_gentle _ _ (each cell) (lowest_gentle f each n (cell +ℤ pos 1))

-- the trial's track is gentle in every cell
track_gentle : (cell : ℤ) → IsGentle (track_gradient trial_track.gradients cell)
track_gentle cell =
    let level : IsGentle (pos 0) = record { low = omega (arith, ints); high = omega (arith, ints) } in
    let falling : IsGentle (negsuc 49) = record { low = omega (arith, ints); high = omega (arith, ints) } in
    pick_gentle (int_le (pos 400_000) cell) (pos 0) _ level
    (pick_gentle (int_le (pos 200_000) cell) (negsuc 49) (pos 0) falling level)

-- ---- the slopes

-- what a gradient adds to a slope: from -196_200_000 * 115 * 50, for 5 per mille downhill, to 0
record IsSlight (a : ℤ) : Type 0 where
  low : negsuc 1_128_149_999_999 ≤ℤ a
  high : a ≤ℤ pos 0

-- a gentle gradient takes little from a slope and adds nothing
gentle_slight : (grad : ℤ) → IsGentle grad → IsSlight (a_gradient None grad)
gentle_slight (pos zero) h = record { low = omega (arith, ints); high = omega (arith, ints) }
gentle_slight (pos (suc n)) h = absurd (omega (arith, ints))
gentle_slight (negsuc n) h = record { low = omega (arith, ints); high = omega (arith, ints) }

-- a slope from 10^13 to 2.3 * 10^13, which is 0.43 m/s² to 0.98 m/s²
record IsModerate (slope : ℤ) : Type 0 where
  low : pos 10_000_000_000_000 ≤ℤ slope
  high : slope ≤ℤ pos 23_000_000_000_000

-- the trial's data with a train of any length: at a number the lowest gradient would be computed cell by cell
abbrev line_with : ℤ → TrainAndTrack
line_with length_cm = record trial_train_and_track { train = record trial_train { length_cm = length_cm } }

-- so much from the brakes, with what a gentle gradient adds, is a moderate slope
moderate : (brakes : ℕ) (a : ℤ) → 11_200_000_000_000 ≤ brakes → brakes ≤ 23_000_000_000_000 → IsSlight a →
    IsModerate (pos brakes +ℤ a)
moderate brakes a low high h = record { low = omega (arith, ints); high = omega (arith, ints) }

-- a Kn of 0 adds nothing
no_kn : (b : Bool) (grad : ℤ) → pos 2_000 *ℤ (if b then pos 0 else pos 0) *ℤ grad ≡ pos 0
no_kn true grad = omega (arith, ints)
no_kn false grad = omega (arith, ints)

-- the slope of a kind in a band over a gradient, on full adhesion and with the special brake
abbrev slope_over : SlopeKind → ℤ → ℕ → ℤ → ℤ
slope_over kind length_cm band grad =
    let d = line_with length_cm in
    option_map_or (slope_under kind d.train d.national (record { grad = grad; reduced = false; unaided = false }))
    (slice_get d.train.bands band) (pos 0)

-- over a gentle gradient each slope is moderate
moderate_over : (kind : SlopeKind) (length_cm : ℤ) (band : ℕ) (grad : ℤ) → band < 2 → IsGentle grad →
    IsModerate (slope_over kind length_cm band grad)
moderate_over Safe length_cm zero grad lt h = moderate _ _ (omega arith) (omega arith) (gentle_slight grad h)
moderate_over Safe length_cm (suc zero) grad lt h = moderate _ _ (omega arith) (omega arith) (gentle_slight grad h)
moderate_over Expected length_cm zero grad lt h = moderate _ _ (omega arith) (omega arith) (gentle_slight grad h)
moderate_over Expected length_cm (suc zero) grad lt h = moderate _ _ (omega arith) (omega arith) (gentle_slight grad h)
moderate_over Normal length_cm zero grad lt h =
    rw (no_kn (is_negative grad) grad) (moderate _ _ (omega arith) (omega arith) (gentle_slight grad h))
moderate_over Normal length_cm (suc zero) grad lt h =
    rw (no_kn (is_negative grad) grad) (moderate _ _ (omega arith) (omega arith) (gentle_slight grad h))
moderate_over kind length_cm (suc (suc n)) grad lt h = absurd (omega arith)

-- so each slope is moderate in every cell
slope_moderate : (kind : SlopeKind) (length_cm : ℤ) (band : ℕ) (cell : ℤ) → band < 2 →
    IsModerate (slope_at kind (line_with length_cm) band cell)
unfolding slope_at
slope_moderate kind length_cm band cell lt =
    moderate_over kind length_cm band _ lt (lowest_gentle _ track_gentle (unsigned_abs length_cm) _)

-- so it is with the trial's own train
line_moderate : (kind : SlopeKind) (band cell : ℕ) → band < 2 →
    IsModerate (slope_at kind trial_train_and_track band (pos cell))
line_moderate kind band cell lt = slope_moderate kind (pos 20_000) band (pos cell) lt

-- the slopes of each kind are accepted
kind_accepted : (kind : SlopeKind) → IsAcceptedKind kind trial_train_and_track
kind_accepted kind = record {
  strong = λ band cell lt. let h = line_moderate kind band cell lt in omega (arith, ints, h.low);
  even = λ band lt cell cell'. let h = line_moderate kind band cell lt in let k =
      line_moderate kind band cell' lt in omega (arith, ints, h.high, k.low);
}

-- the data of every trial are accepted at the opening
pub accepted : IsAccepted trial_train_and_track trial_authority
accepted = (kind_accepted, refl)
