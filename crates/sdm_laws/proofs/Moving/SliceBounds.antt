-- How fast a train gets, and how far it comes, in slices of one phase: with the phase's acceleration over all its time
-- the sums of the slices' inequalities are those of one slice.
use Rattle.std.proofs.Common.{◌≡◌, ℕ, ℤ, suc, pos, List, [], ◌∷◌, ◌++◌, ◌+◌, ◌*◌, ◌≤◌, ◌+ℤ◌, refl, subst, ap, arith}
use Rattle.std.proofs.Common.{◌∙◌}
use Rattle.std.specs.Prelude.{◌≤ℤ◌, All}
use Rattle.std.proofs.lemmas.Int.{ints}
use Rattle.std.proofs.lemmas.List.Elements.{All-nil, All-cons}
use Rattle.std.proofs.lemmas.Nat.{mul-le}
use Rattle.std.proofs.Math.Nat.{mul-le-mul_left}
use Rattle.sdm_rules.specs.declared.motions.Phase.{Phase}
use Rattle.sdm_rules.specs.declared.motions.Point.{Point}
use Rattle.sdm_rules.specs.declared.motions.Slice.{Slice}
use Rattle.sdm_rules.specs.declared.motions.Start.{Start}
use Rattle.sdm_rules.specs.Motion.{accel_in, IsSlice, AreSlices, time_of, IsIn, slice_ends, last_point}
use Rattle.sdm_laws.specs.MotionLaws.{IsBounded}

-- the speed after slices
abbrev pub last_speed : ℕ → List Slice → ℕ
last_speed v [] = v
last_speed v (x ∷ xs) = last_speed x.to xs

-- the distance of slices
abbrev pub distance_of : List Slice → ℕ
distance_of [] = 0
distance_of (x ∷ xs) = x.length + distance_of xs

-- ---- one phase

-- the bounds of speed of one slice and of the rest add up
pub more_speed : (a v to time rest last : ℕ) → to ≤ v + 54 * a * time → last ≤ to + 54 * a * rest →
    last ≤ v + 54 * a * (time + rest)
more_speed a v to time rest last g k = omega arith

-- the bounds of distance of one slice and of the rest add up
more_distance : (a v to time length rest distance : ℕ) → to ≤ v + 54 * a * time →
    2 * length ≤ 1_000_000 * (v + to) * time →
    2 * distance ≤ 1_000_000 * (2 * to + 54 * a * rest) * rest →
    2 * (length + distance) ≤ 1_000_000 * (2 * v + 54 * a * (time + rest)) * (time + rest)
more_distance a v to time length rest distance g m k = omega (arith, mul-le-mul_left time g, mul-le-mul_left rest g)

-- the later slices are of the same phase
rest_in : (phase : Phase) (x : Slice) (xs : List Slice) → IsIn phase (x ∷ xs) → IsIn phase xs
rest_in phase x xs h = λ k d lt. h (suc k) d (omega arith)

-- the first slice has the acceleration of its phase
slice_in : (start : Start) (phase : Phase) (v : ℕ) (x : Slice) (xs : List Slice) → AreSlices start v (x ∷ xs) →
    IsIn phase (x ∷ xs) →
    IsSlice (accel_in start phase) v x
slice_in start phase v x xs h i = subst (λ (p : Phase). IsSlice (accel_in start p) v x) (i 0 x (omega arith)) h.0

-- in one phase the train gets no faster than with its acceleration over all the time
pub phase_speed : (start : Start) (phase : Phase) (v : ℕ) (xs : List Slice) → AreSlices start v xs → IsIn phase xs →
    last_speed v xs ≤ v + 54 * accel_in start phase * time_of xs
phase_speed start phase v [] h i = omega arith
phase_speed start phase v (x ∷ xs) h i =
    let rest = phase_speed start phase x.to xs h.1 (rest_in phase x xs i) in
    let here = slice_in start phase v x xs h i in
    more_speed (accel_in start phase) v x.to x.time (time_of xs) (last_speed x.to xs) here.gains rest

-- in one phase the train comes no farther than with its acceleration over all the time
pub phase_distance : (start : Start) (phase : Phase) (v : ℕ) (xs : List Slice) → AreSlices start v xs → IsIn phase xs →
    2 * distance_of xs ≤ 1_000_000 * (2 * v + 54 * accel_in start phase * time_of xs) * time_of xs
phase_distance start phase v [] h i = omega arith
phase_distance start phase v (x ∷ xs) h i =
    let rest = phase_distance start phase x.to xs h.1 (rest_in phase x xs i) in
    let here = slice_in start phase v x xs h i in
    more_distance (accel_in start phase) v x.to x.time x.length (time_of xs) (distance_of xs) here.gains here.moves rest

-- each end lies within what bounds the distance and the speed of all the slices
pub ends_bounded : (start : Start) (phase : Phase) (p q : ℤ) (v b : ℕ) (xs : List Slice) → AreSlices start v xs →
    IsIn phase xs →
    v + 54 * accel_in start phase * time_of xs ≤ b → (p +ℤ pos (distance_of xs)) ≤ℤ q →
    All (IsBounded q b) (slice_ends p v xs)
ends_bounded start phase p q v b [] h i slow near = All-nil (IsBounded q b)
ends_bounded start phase p q v b (x ∷ xs) h i slow near =
    let here = slice_in start phase v x xs h i in
    let gains = here.gains in
    let to_le : x.to ≤ b = omega arith in
    All-cons (IsBounded q b) _ _ (record { place = omega (arith, ints); square = mul-le x.to x.to b b to_le to_le })
    (ends_bounded start phase (p +ℤ pos x.length) q x.to b xs h.1 (rest_in phase x xs i) (omega arith)
    (omega (arith, ints)))

-- ---- slices of one phase after those of another

-- slices one after the other are slices each, the second list from the last speed of the first
pub slices_split : (start : Start) (v : ℕ) (xs ys : List Slice) → AreSlices start v (xs ++ ys) →
    AreSlices start v xs × AreSlices start (last_speed v xs) ys
slices_split start v [] ys h = (tt, h)
slices_split start v (x ∷ xs) ys h = let k = slices_split start x.to xs ys h.1 in ((h.0, k.0), k.1)

pub last_speed-append : (v : ℕ) (xs ys : List Slice) → last_speed v (xs ++ ys) ≡ last_speed (last_speed v xs) ys
last_speed-append v [] ys = refl
last_speed-append v (x ∷ xs) ys = last_speed-append x.to xs ys

pub distance_of-append : (xs ys : List Slice) → distance_of (xs ++ ys) ≡ distance_of xs + distance_of ys
distance_of-append [] ys = omega arith
distance_of-append (x ∷ xs) ys = let e = distance_of-append xs ys in omega arith

pub slice_ends-append : (p : ℤ) (v : ℕ) (xs ys : List Slice) →
    slice_ends p v (xs ++ ys) ≡ slice_ends p v xs ++ slice_ends (p +ℤ pos (distance_of xs)) (last_speed v xs) ys
slice_ends-append p v [] ys = let e : p ≡ p +ℤ pos 0 = omega (arith, ints) in ap (λ (q : ℤ). slice_ends q v ys) e
slice_ends-append p v (x ∷ xs) ys =
    let e : (p +ℤ pos x.length) +ℤ pos (distance_of xs) ≡ p +ℤ pos (x.length + distance_of xs) = omega (arith, ints) in
    ap (λ (zs : List Point). record { place = p +ℤ pos x.length; square = x.to * x.to } ∷ zs)
    (slice_ends-append (p +ℤ pos x.length) x.to xs ys
    ∙ ap (λ (q : ℤ). slice_ends (p +ℤ pos x.length) x.to xs ++ slice_ends q (last_speed x.to xs) ys) e)

-- slices end their whole distance past the beginning, with their last speed
pub last_end : (p : ℤ) (v : ℕ) (xs : List Slice) →
    last_point (record { place = p; square = v * v }) (slice_ends p v xs) ≡ record {
      place = p +ℤ pos (distance_of xs);
      square = last_speed v xs * last_speed v xs;
    }
last_end p v [] = let e : p ≡ p +ℤ pos 0 = omega (arith, ints) in ap (λ (q : ℤ). record { place = q; square = v * v }) e
last_end p v (x ∷ xs) =
    let e : (p +ℤ pos x.length) +ℤ pos (distance_of xs) ≡ p +ℤ pos (x.length + distance_of xs) = omega (arith, ints) in
    last_end (p +ℤ pos x.length) x.to xs
    ∙ ap (λ (q : ℤ). record { place = q; square = last_speed x.to xs * last_speed x.to xs }) e
