-- Going back from band to band puts the marks of all bands.
use Rattle.std.proofs.Common.{◌≡◌, ℕ, ℤ, zero, suc, List, [], ◌∷◌, ◌++◌, ◌+◌, ◌<◌, ◌≤◌, ◌<ℤ◌, length, reverse}
use Rattle.std.proofs.Common.{slice_index, ap, arith, refl, sym, ◌∙◌, inl, inr}
use Rattle.std.proofs.lemmas.Bool.{cases_lt}
use Rattle.std.proofs.lemmas.List.{reverse-append}
use Rattle.sdm_rules.specs.Slopes.{Slopes, IsUsable}
use Rattle.sdm_laws.specs.Levels.{lower_speed}
use Rattle.sdm_curve.specs.Maps.{AreUppers}
use Rattle.sdm_rules.specs.declared.certificates.Mark.{Mark}
use Rattle.sdm_certify.specs.Made.{knot, between, marks_from}
use Rattle.sdm_certify.proofs.MadeMarks.{from_stop, from_first, from_here, from_below, knots_apart}

-- the marks of the bands below, from the knot of the lower speed on
abbrev below : Slopes → ℤ → ℕ → List Mark
below on svl zero = knot on svl 0 ∷ []
below on svl (suc b) = marks_from on svl b (slice_index on.uppers b)

-- The walk has come to a band whose lower speed is below `v`.
pub record IsUpTo (on : Slopes) (svl : ℤ) (v band : ℕ) (next : Mark) (marks : List Mark) : Type 0 where
  pub known : band ≤ length on.uppers
  pub next_is : next ≡ knot on svl (lower_speed on band)
  pub faster : lower_speed on band < v
  pub list : marks ≡ reverse (below on svl band)

-- within the band the marks are those of all bands up to it
from_is : (on : Slopes) (svl : ℤ) (band u : ℕ) → lower_speed on band < u →
    marks_from on svl band u ≡ knot on svl u ∷
    (between on band (knot on svl u) (knot on svl (lower_speed on band)) ++ below on svl band)
from_is on svl zero u lt = from_first on svl u lt
from_is on svl (suc b) u lt = from_here on svl b u lt

-- with the marks of the band put, those up to it are put
up_list : (on : Slopes) (svl : ℤ) (v band u : ℕ) (here next : Mark) (marks marks' : List Mark) →
    lower_speed on band < u → here ≡ knot on svl u → marks' ≡ marks ++ reverse (here ∷ between on band here next) →
    IsUpTo on svl v band next marks →
    marks' ≡ reverse (marks_from on svl band u)
up_list on svl v band u here next marks marks' lt here_is put h =
    let put' = rw (here_is, h.next_is, h.list) at put in
    put'
    ∙
    (sym (reverse-append (knot on svl u ∷ between on band (knot on svl u) (knot on svl (lower_speed on band)))
    (below on svl band)) ∙ ap (λ (ys : List Mark). reverse ys) (sym (from_is on svl band u lt)))

-- so the walk has come to the next band
pub up_next : (on : Slopes) (svl : ℤ) (v band u : ℕ) (here next : Mark) (marks marks' : List Mark) →
    band < length on.uppers → u ≡ slice_index on.uppers band → lower_speed on band < u → u < v → here ≡ knot on svl u →
    marks' ≡ marks ++ reverse (here ∷ between on band here next) → IsUpTo on svl v band next marks →
    IsUpTo on svl v (band + 1) here marks'
up_next on svl v band u here next marks marks' known u_is lt further here_is put h =
    let next_band : band + 1 ≡ suc band = omega arith in
    rw next_band (record {
      known = omega arith;
      next_is = rw (← u_is) here_is;
      faster = rw (← u_is) further;
      list = rw (← u_is) (up_list on svl v band u here next marks marks' lt here_is put h);
    })

-- no band above the speed has a mark
top_is : (on : Slopes) (svl : ℤ) (n band v : ℕ) → band ≤ n →
    ((j : ℕ) → band ≤ j → j < n → v ≤ slice_index on.uppers j) → marks_from on svl n v ≡ marks_from on svl band v
top_is on svl zero band v le slow = let e : band ≡ 0 = omega arith in rw e refl
top_is on svl (suc n) band v le slow =
    elim (cases_lt n band) [
      | inl lt ↦ (let e : band ≡ suc n = omega arith in rw e refl)
      | inr ge ↦ from_below on svl n v (slow n ge (omega arith))
          ∙ top_is on svl n band v ge (λ j l m. slow j l (omega arith))
    ]

-- and where the speed is in the band, all marks are put
pub up_end : (on : Slopes) (svl : ℤ) (v band : ℕ) (here next : Mark) (marks marks' : List Mark) → IsUsable on →
    (band < length on.uppers → v ≤ slice_index on.uppers band) → here ≡ knot on svl v →
    marks' ≡ marks ++ reverse (here ∷ between on band here next) → IsUpTo on svl v band next marks →
    marks' ≡ reverse (marks_from on svl (length on.uppers) v)
up_end on svl v band here next marks marks' usable slow here_is put h =
    up_list on svl v band v here next marks marks' h.faster here_is put h
    ∙ ap (λ (ys : List Mark). reverse ys)
    (sym
    (top_is on svl (length on.uppers) band v h.known (λ j le lt. (let r = usable.rising band j le lt in
    let s = slow (omega arith) in omega arith))))

-- a train that stands has one mark
pub up_none : (on : Slopes) (svl : ℤ) (v : ℕ) (next : Mark) (marks : List Mark) → next ≡ knot on svl 0 → v ≡ 0 →
    marks ≡ next ∷ [] → marks ≡ reverse (marks_from on svl (length on.uppers) v)
up_none on svl v next marks is none list =
    let all = top_is on svl (length on.uppers) 0 v (omega arith) (λ j le lt. omega arith) ∙ from_stop on svl v none in
    list ∙ (ap (λ (x : Mark). x ∷ []) is ∙ ap (λ (ys : List Mark). reverse ys) (sym all))

-- the lower speed of a band is below its upper speed
pub lower_below : (on : Slopes) (band : ℕ) → AreUppers on.uppers → band < length on.uppers →
    lower_speed on band < slice_index on.uppers band
lower_below on zero uppers known = uppers.positive 0 known
lower_below on (suc b) uppers known = uppers.rise b (suc b) (omega arith) known

-- the knot of a speed in the band lies before that of the band's lower speed
pub up_apart : (on : Slopes) (svl : ℤ) (v band u : ℕ) (here next : Mark) (marks : List Mark) → IsUsable on →
    lower_speed on band < u → (band < length on.uppers → u ≤ slice_index on.uppers band) → here ≡ knot on svl u →
    IsUpTo on svl v band next marks → here.place <ℤ next.place
up_apart on svl v band u here next marks usable lt slow here_is h = rw (here_is, h.next_is)
    (knots_apart on svl band u usable h.known lt slow)

-- a knot by another name of its place or its speed
pub knot_at : (on : Slopes) (p svl : ℤ) (v v' : ℕ) (x : Mark) → x ≡ knot on p v → p ≡ svl → v ≡ v' → x ≡ knot on svl v'
knot_at on p svl v v' x is p_is v_is = rw (← p_is, ← v_is) is
