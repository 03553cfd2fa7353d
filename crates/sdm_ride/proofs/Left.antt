-- What is left of a promise on the way: of every motion from its reading `Q` holds at each braking point, so it does of
-- every motion that goes on from where the train is. Since a motion may brake in place, `Q` holds of the train itself.
use Rattle.std.proofs.Common.{◌≡◌, ℕ, ℤ, suc, pos, List, [], ◌∷◌, ◌++◌, ◌*◌, ◌+ℤ◌, refl, subst, arith}
use Rattle.std.specs.Prelude.{All}
use Rattle.std.proofs.lemmas.Int.{ints}
use Rattle.std.proofs.lemmas.List.Elements.{All-nil, All-cons}
use Rattle.sdm_rules.specs.declared.motions.Phase.TheVariants.{Traction, Build}
use Rattle.sdm_rules.specs.declared.motions.Point.{Point}
use Rattle.sdm_rules.specs.declared.motions.Slice.{Slice}
use Rattle.sdm_rules.specs.declared.motions.Start.{Start}
use Rattle.sdm_rules.specs.Slopes.{Slopes, IsUsable}
use Rattle.sdm_rules.specs.Motion.{AreSlices, IsBraking, IsIn, IsStep, last_point, slice_ends, time_of}
use Rattle.sdm_ride.specs.Rides.{BrakesBy, IsTick}
use Rattle.sdm_ride.proofs.InPlace.{drop, then_braking}

-- ---- what is left

-- where the train is
abbrev pub at : ℤ → ℕ → Point
at p v = record { place = p; square = v * v }

-- of braking: `Q` holds wherever the train brakes on from the point
abbrev pub LeftBraking : Slopes → ℕ → (Point → Type 0) → Point → Type 0
LeftBraking on m Q x = (more : List Point) → IsBraking on m x more → All Q (x ∷ more)

-- of the build-up, with a time that is left
abbrev pub LeftBuild : ℕ → Start → Slopes → (Point → Type 0) → ℕ → ℤ → ℕ → Type 0
LeftBuild s start on Q rest p v =
    (build : List Slice) → IsIn Build build → time_of build ≡ rest → AreSlices start v build →
    LeftBraking on (s * s) Q (last_point (at p v) (slice_ends p v build))

-- of the traction, with a time that is left
abbrev pub LeftTraction : ℕ → Start → Slopes → (Point → Type 0) → ℕ → ℤ → ℕ → Type 0
LeftTraction s start on Q rest p v =
    (traction build : List Slice) → IsIn Traction traction → IsIn Build build → time_of traction ≡ rest →
    time_of build ≡ s * start.berem → AreSlices start v (traction ++ build) →
    LeftBraking on (s * s) Q (last_point (at p v) (slice_ends p v (traction ++ build)))

-- ---- it goes on

-- after a tick of traction
pub traction_tick : (s : ℕ) (start : Start) (on : Slopes) (Q : Point → Type 0) (rest : ℕ) (p : ℤ) (v to length : ℕ) →
    IsTick start.accel1 v to length → LeftTraction s start on Q (suc rest) p v →
    LeftTraction s start on Q rest (p +ℤ pos length) to
traction_tick s start on Q rest p v to length tick h = λ traction build in_traction in_build time build_time slices.
    let x : Slice = record { phase = Traction; time = 1; to = to; length = length } in
    let gains = tick.gains in
    let moves = tick.moves in
    h (x ∷ traction) build (All-cons (λ (y : Slice). y.phase ≡ Traction) x traction refl in_traction) in_build
    (omega arith) build_time (record { gains = omega arith; moves = omega arith }, slices)

-- after a tick of the build-up
pub build_tick : (s : ℕ) (start : Start) (on : Slopes) (Q : Point → Type 0) (rest : ℕ) (p : ℤ) (v to length : ℕ) →
    IsTick start.accel2 v to length → LeftBuild s start on Q (suc rest) p v →
    LeftBuild s start on Q rest (p +ℤ pos length) to
build_tick s start on Q rest p v to length tick h = λ build in_build time slices.
    let x : Slice = record { phase = Build; time = 1; to = to; length = length } in
    let gains = tick.gains in
    let moves = tick.moves in
    h (x ∷ build) (All-cons (λ (y : Slice). y.phase ≡ Build) x build refl in_build) (omega arith)
    (record { gains = omega arith; moves = omega arith }, slices)

-- after a step of braking
step_on : (on : Slopes) (m : ℕ) (Q : Point → Type 0) (x y : Point) → IsStep on m x y → LeftBraking on m Q x →
    LeftBraking on m Q y
step_on on m Q x y step h = λ more brakes k d lt. h (y ∷ more) (step, brakes) (suc k) d (omega arith)

-- after several steps
pub brakes_on : (on : Slopes) (m : ℕ) (Q : Point → Type 0) (x : Point) (via : List Point) (y : Point) →
    BrakesBy on m x via y → LeftBraking on m Q x → LeftBraking on m Q y
brakes_on on m Q x [] y steps h = step_on on m Q x y steps h
brakes_on on m Q x (z ∷ zs) y steps h = brakes_on on m Q z zs y steps.1 (step_on on m Q x z steps.0 h)

-- once the traction is over the build-up is left
pub build_begins : (s : ℕ) (start : Start) (on : Slopes) (Q : Point → Type 0) (p : ℤ) (v : ℕ) →
    LeftTraction s start on Q 0 p v → LeftBuild s start on Q (s * start.berem) p v
build_begins s start on Q p v h = λ build in_build time slices.
    h [] build (All-nil (λ (y : Slice). y.phase ≡ Traction)) in_build refl time slices

-- once the build-up is over braking is left
pub braking_begins : (s : ℕ) (start : Start) (on : Slopes) (Q : Point → Type 0) (p : ℤ) (v : ℕ) →
    LeftBuild s start on Q 0 p v → LeftBraking on (s * s) Q (at p v)
braking_begins s start on Q p v h = h [] (All-nil (λ (y : Slice). y.phase ≡ Build)) refl tt

-- ---- what it says of the train

pub now_braking : (on : Slopes) (m : ℕ) (Q : Point → Type 0) (x : Point) → IsUsable on → LeftBraking on m Q x → Q x
now_braking on m Q x usable h =
    let d = drop on m x.place x.square 0 usable (omega arith) in
    let end : Point = record { place = x.place; square = 0 } in
    h (d.via ++ end ∷ []) (then_braking on m x d.via end [] d.steps refl) 0 x (omega arith)

-- a slice of the build-up in which the train stays where it is
abbrev staying : ℕ → ℕ → Slice
staying time v = record { phase = Build; time = time; to = v; length = 0 }

pub now_build : (s : ℕ) (start : Start) (on : Slopes) (Q : Point → Type 0) (rest : ℕ) (p : ℤ) (v : ℕ) → IsUsable on →
    LeftBuild s start on Q rest p v → Q (at p v)
now_build s start on Q rest p v usable h =
    let e : p +ℤ pos 0 ≡ p = omega (arith, ints) in
    let x = staying rest v in
    subst (λ (q : ℤ). Q (at q v)) e
    (now_braking on (s * s) Q (at (p +ℤ pos 0) v) usable
    (h (x ∷ []) (All-cons (λ (y : Slice). y.phase ≡ Build) x [] refl (All-nil (λ (y : Slice). y.phase ≡ Build)))
    (omega arith) (record { gains = omega arith; moves = omega arith }, tt)))

pub now_traction : (s : ℕ) (start : Start) (on : Slopes) (Q : Point → Type 0) (rest : ℕ) (p : ℤ) (v : ℕ) →
    IsUsable on → LeftTraction s start on Q rest p v → Q (at p v)
now_traction s start on Q rest p v usable h =
    let e : p +ℤ pos 0 ≡ p = omega (arith, ints) in
    let x : Slice = record { phase = Traction; time = rest; to = v; length = 0 } in
    let left : LeftBuild s start on Q (s * start.berem) (p +ℤ pos 0) v = λ build in_build time slices.
    h (x ∷ []) build (All-cons (λ (y : Slice). y.phase ≡ Traction) x []
    refl (All-nil (λ (y : Slice). y.phase ≡ Traction))) in_build (omega arith) time
    (record { gains = omega arith; moves = omega arith }, slices) in
    subst (λ (q : ℤ). Q (at q v)) e (now_build s start on Q (s * start.berem) (p +ℤ pos 0) v usable left)
