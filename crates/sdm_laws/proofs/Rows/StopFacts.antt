-- What stays within a curve: a point within the bounds of the reaction is within a curve that the front end, with
-- D_bec before it, has not passed; and speeds do not rise while the train brakes.
use Rattle.std.proofs.Common.{◌≡◌, ℕ, ℤ, pos, List, [], ◌∷◌, ◌<◌, ◌≤◌, ◌*◌, ◌+ℤ◌, ◌*ℤ◌, ◌≤ℤ◌, arith}
use Rattle.std.specs.Prelude.{All}
use Rattle.std.proofs.lemmas.Int.{ints}
use Rattle.std.proofs.lemmas.List.Elements.{All-nil, All-cons}
use Rattle.sdm_num.specs.Fractions.{IsAtMost, whole}
use Rattle.sdm_num.proofs.Ints.{scale-+ℤ}
use Rattle.sdm_num.proofs.Order.{at_most_trans, whole_at_most}
use Rattle.sdm_rules.specs.declared.motions.Point.{Point}
use Rattle.sdm_rules.specs.Slopes.{Slopes, IsUsable}
use Rattle.sdm_rules.specs.Curves.{exact_at}
use Rattle.sdm_rules.specs.Motion.{IsBraking}
use Rattle.sdm_laws.specs.MotionLaws.{IsBounded, IsWithinCurve}
use Rattle.sdm_laws.proofs.BrakeCurves.CurveOrder.{exact_positive, exact_falls}
use Rattle.sdm_laws.proofs.BrakeCurves.CurveNearness.{scaled_within}

-- a point within the bounds of the reaction is within a curve that the front end, with D_bec before it, hasn't
-- passed
pub within_first : (on : Slopes) → IsUsable on → (s : ℕ) (f : ℤ) (w v d : ℕ) (front p : ℤ) (x : Point) → 0 < s * s →
    IsAtMost (whole (front +ℤ pos d)) (exact_at on 1 f w (v * v)) → p ≤ℤ (pos (s * s) *ℤ front) →
    IsBounded (p +ℤ pos (s * s * d)) (s * v) x → IsWithinCurve on (s * s) f w x
within_first on usable s f w v d front p x pos_m h begins b =
    let m = s * s in
    let y = exact_at on m f w (m * (v * v)) in
    let e : pos m *ℤ (front +ℤ pos d) ≡ pos m *ℤ front +ℤ pos (m * d) = scale-+ℤ m front (pos d) in
    let place : x.place ≤ℤ (pos m *ℤ (front +ℤ pos d)) = (let k = b.place in omega (arith, ints)) in
    let one : IsAtMost (whole x.place) (whole (pos m *ℤ (front +ℤ pos d))) = whole_at_most _ _ place in
    let two : IsAtMost (whole (pos m *ℤ (front +ℤ pos d))) y = scaled_within on usable m f w (v * v)
    (front +ℤ pos d) pos_m h in
    let square : x.square ≤ m * (v * v) = (let k = b.square in omega arith) in
    let three : IsAtMost y (exact_at on m f w x.square) = exact_falls on m f w x.square
    (m * (v * v)) usable pos_m square in
    at_most_trans (whole x.place) y (exact_at on m f w x.square) (exact_positive on m f w (m * (v * v)) usable pos_m)
    (at_most_trans (whole x.place) (whole (pos m *ℤ (front +ℤ pos d))) y (omega arith) one two) three

-- no speed rises while the train brakes
pub slower : (on : Slopes) (m b : ℕ) (x : Point) (ys : List Point) → IsBraking on m x ys → x.square ≤ b →
    All (λ y. y.square ≤ b) ys
slower on m b x [] h k = All-nil (λ (z : Point). z.square ≤ b)
slower on m b x (y ∷ ys) h k =
    let next : y.square ≤ b = omega (arith, h.0.brakes.slower) in
    All-cons (λ (z : Point). z.square ≤ b) y ys next (slower on m b y ys h.1 next)
