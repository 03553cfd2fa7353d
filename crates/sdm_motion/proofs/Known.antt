-- A motion as it is handed in, by what the code tests.
use Rattle.std.proofs.Common.{◌≡◌, ℕ, ℤ, pos, List, [], ◌∷◌, All, Some, slice_get, ◌*◌, ◌*ℤ◌, ◌∙◌, refl, arith}
use Rattle.std.proofs.lemmas.Int.{ints}
use Rattle.sdm_rules.specs.declared.motions.Point.{Point}
use Rattle.sdm_rules.specs.declared.motions.Slice.{Slice}
use Rattle.sdm_rules.specs.declared.motions.Start.{Start}
use Rattle.sdm_rules.specs.Slopes.{Slopes}
use Rattle.sdm_rules.specs.Motion.{IsReaction}
use Rattle.sdm_rules.specs.Stop.{IsMotionOn}
use Rattle.sdm_motion.specs.Motions.{first_of, motion_from, IsPointInRange, IsKnownMotion, LawOfKnownMotion}
use Rattle.sdm_motion.specs.Steps.{AreBraking}

-- what the code tests makes a known motion
pub known_of : (on : Slopes) (start : Start) (s : ℕ) (xs : List Slice) (points : List Point) (x : Point) (p : ℤ)
    (v : ℕ) → p ≡ pos (s * s) *ℤ start.front → v ≡ s * start.speed →
    slice_get points 0 ≡ Some x → All IsPointInRange points → IsReaction s start v xs → x ≡ first_of p v xs →
    AreBraking on (s * s) points → IsKnownMotion on start s xs points
known_of on start s xs points x p v p_is v_is at ranges reaction is braking =
    known_at on start s xs points x at ranges (rw v_is at reaction) (rw (p_is, v_is) at is) braking
  where
    known_at : (on : Slopes) (start : Start) (s : ℕ) (xs : List Slice) (points : List Point) (x : Point) →
        slice_get points 0 ≡ Some x → All IsPointInRange points →
        IsReaction s start (s * start.speed) xs → x ≡ first_of (pos (s * s) *ℤ start.front) (s * start.speed) xs →
        AreBraking on (s * s) points → IsKnownMotion on start s xs points
    known_at on start s xs [] x at ranges reaction is braking = absurd braking
    known_at on start s xs (y ∷ ys) x at ranges reaction is braking = record {
      first = y;
      more = ys;
      split = refl;
      motion = record {
        reaction = reaction;
        begins = (let e : y ≡ x = cc in e ∙ is);
        braking = braking;
      };
      ranges = ranges;
    }

-- the points of a known motion brake step by step
pub known_braking : (on : Slopes) (start : Start) (s : ℕ) (xs : List Slice) (points : List Point) →
    IsKnownMotion on start s xs points → AreBraking on (s * s) points
known_braking on start s xs points h = rw h.split h.motion.braking

-- it begins exactly at the front and with the speed of the start, which motions are at most at and at most have
pub known_motion : LawOfKnownMotion
known_motion on start s xs points some h =
    let m = motion_from start s xs h.first h.more in
    let is : IsMotionOn on start m =
    (some, record { place = omega (arith, ints); speed = omega arith; motion = h.motion }) in
    record {
      first = h.first;
      more = h.more;
      split = h.split;
      motion = is;
      stops = λ place all. rw h.split (all m is);
      slows = λ place w all. rw h.split (all m is);
    }
