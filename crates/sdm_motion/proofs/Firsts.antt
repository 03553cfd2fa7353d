-- Slices end past their beginning by all their lengths, with the square of the last speed: by induction over the
-- slices.
use Rattle.std.proofs.Common.{◌≡◌, ℕ, suc, ℤ, pos, List, [], ◌∷◌, Some, None, length, slice_get, ◌-◌, ◌+◌, ◌*◌, ◌+ℤ◌}
use Rattle.std.proofs.Common.{arith, ap, sym, refl, ◌∙◌}
use Rattle.std.proofs.lemmas.Int.{ints}
use Rattle.std.proofs.lemmas.Option.{slice_get-get_or}
use Rattle.sdm_rules.specs.declared.motions.Point.{Point}
use Rattle.sdm_rules.specs.declared.motions.Slice.{Slice}
use Rattle.sdm_motion.specs.Slices.{length_of, speed_after}
use Rattle.sdm_motion.specs.Motions.{first_of}

-- ---- the last speed

-- the speed after slices is that of the last of them
pub last_speed : (v : ℕ) (xs : List Slice) (x : Slice) → slice_get xs (length xs - 1) ≡ Some x → x.to ≡ speed_after v xs
last_speed v [] x at = absurd (nothing at)
  where
    nothing : {x : Slice} → slice_get [] 0 ≡ Some x → ⊥
    nothing at = cc
last_speed v (y ∷ []) x at = ap (λ (z : Slice). z.to) (is_its y x at)
  where
    is_its : (y x : Slice) → slice_get (y ∷ []) 0 ≡ Some x → x ≡ y
    is_its y x at = cc
last_speed v (y ∷ z ∷ zs) x at =
    let n : length (y ∷ z ∷ zs) - 1 ≡ suc (length (z ∷ zs) - 1) = omega arith in
    last_speed y.to (z ∷ zs) x (rw n at at)

-- with no slices the speed is that of the beginning
pub no_speed : (v : ℕ) (xs : List Slice) → slice_get xs (length xs - 1) ≡ None → v ≡ speed_after v xs
no_speed v [] at = refl
no_speed v (y ∷ ys) at = let e = slice_get-get_or (y ∷ ys) (length (y ∷ ys) - 1) y (omega arith) in cc

-- ---- the first point

-- a point by its place and its square
abbrev point : ℤ → ℕ → Point
point p u = record { place = p; square = u }

same_point : (p p' : ℤ) (u u' : ℕ) → p ≡ p' → u ≡ u' → point p u ≡ point p' u'
same_point p p' u u' e f = cc

-- slices end past their beginning by all their lengths, with the square of the last speed
pub first_is : (p : ℤ) (v : ℕ) (xs : List Slice) →
    first_of p v xs ≡ point (p +ℤ pos (length_of xs)) (speed_after v xs * speed_after v xs)
first_is p v [] = same_point p (p +ℤ pos 0) (v * v) (v * v) (omega (arith, ints)) refl
first_is p v (x ∷ xs) =
    let u = speed_after x.to xs * speed_after x.to xs in
    first_is (p +ℤ pos x.length) x.to xs
    ∙ same_point ((p +ℤ pos x.length) +ℤ pos (length_of xs)) (p +ℤ pos (x.length + length_of xs)) u u
    (omega (arith, ints)) refl

-- the first point, by its place and its square
pub place_is : (p : ℤ) (v : ℕ) (xs : List Slice) (x : Point) → x ≡ first_of p v xs → x.place ≡ p +ℤ pos (length_of xs)
place_is p v xs x e = ap (λ (y : Point). y.place) (e ∙ first_is p v xs)

pub square_is : (p : ℤ) (v : ℕ) (xs : List Slice) (x : Point) → x ≡ first_of p v xs →
    x.square ≡ speed_after v xs * speed_after v xs
square_is p v xs x e = ap (λ (y : Point). y.square) (e ∙ first_is p v xs)

-- and a point with both is the first one
pub is_first_of : (p : ℤ) (v : ℕ) (xs : List Slice) (x : Point) → x.place ≡ p +ℤ pos (length_of xs) →
    x.square ≡ speed_after v xs * speed_after v xs → x ≡ first_of p v xs
is_first_of p v xs x e f = same_point x.place (p +ℤ pos (length_of xs)) x.square
    (speed_after v xs * speed_after v xs) e f ∙ sym (first_is p v xs)
