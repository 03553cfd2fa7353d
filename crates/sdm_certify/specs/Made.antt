-- The marks that the program makes for a claim (own). They lie on the brake curve that stops at the claim's place, on
-- the claim's slopes, from the place of V_bec on: one wherever the speed band changes, and one wherever the slope of
-- the present band does.
use Rattle.std.specs.Prelude.{ℕ, zero, suc, ℤ, pos, neg_ℤ, List, [], ◌∷◌, ◌++◌, ◌+◌, ◌*◌, ◌≤ℤ◌, ◌+ℤ◌, unsigned_abs}
use Rattle.std.specs.Prelude.{All, ◌≤◌, length, slice_index, nat_eq, nat_lt, if◌then◌else◌}
use Rattle.sdm_rules.specs.declared.certificates.Claim.{Claim}
use Rattle.sdm_rules.specs.declared.certificates.Mark.{Mark}
use Rattle.sdm_rules.specs.Certificates.{d_bec_of, v_bec_of, Hold, IsMarkInRange}
use Rattle.sdm_rules.specs.Curves.{cell_at, cell_start, grain_energy, stepped}
use Rattle.sdm_rules.specs.Slopes.{Slopes, IsUsable}
use Rattle.sdm_laws.specs.Energy.{energy}

-- a knot: the computed place where the curve to the stop has a speed, with the speed's energy (own)
abbrev pub knot : Slopes → ℤ → ℕ → Mark
knot on svl v = record { place = stepped on svl 0 v; energy = grain_energy on (v * v) }

-- the energy of the way from a place to a later one in one band: 27 * slope for each grain (own)
abbrev pub way_energy : Slopes → ℕ → ℤ → ℤ → ℕ
way_energy on band p p' = 27 * energy on band 1 p (unsigned_abs (p' +ℤ neg_ℤ p))

-- the mark where a cell begins, with the energy of the knot after it and of the way to that (own)
abbrev pub mark_before : Slopes → ℕ → Mark → ℤ → Mark
mark_before on band y cell =
    record { place = cell_start 1 cell; energy = y.energy + way_energy on band (cell_start 1 cell) y.place }

-- of `n` cells from `cell` on, before the knot `y`: a mark where each begins that has another slope in the band than
-- the cell before it (own)
abbrev pub changes : Slopes → ℕ → Mark → ℤ → ℕ → List Mark
changes on band y cell zero = []
changes on band y cell (suc n) =
    let later = changes on band y (cell +ℤ pos 1) n in
    if nat_eq (on.slope band (cell +ℤ neg_ℤ (pos 1))) (on.slope band cell) then later
    else mark_before on band y cell ∷ later

-- the marks strictly between two neighbouring knots: of the cells that begin there (own)
abbrev pub between : Slopes → ℕ → Mark → Mark → List Mark
between on band x y =
    let before = cell_at 1 x.place in
    changes on band y (before +ℤ pos 1) (unsigned_abs (cell_at 1 (y.place +ℤ neg_ℤ (pos 1)) +ℤ neg_ℤ before))

-- the marks from the knot of a speed on to the stop, where the speed is not above the band: in the band itself where
-- the speed is above its lower border, and in those below; a train that stands has the stop alone (own)
abbrev pub marks_from : Slopes → ℤ → ℕ → ℕ → List Mark
marks_from on svl zero v =
    let here = knot on svl v ∷ (between on 0 (knot on svl v) (knot on svl 0) ++ (knot on svl 0 ∷ [])) in
    if nat_eq v 0 then knot on svl 0 ∷ [] else here
marks_from on svl (suc band) v =
    let border = slice_index on.uppers band in
    let here = knot on svl v
    ∷ (between on (suc band) (knot on svl v) (knot on svl border) ++ marks_from on svl band border) in
    let below = marks_from on svl band v in
    if nat_lt border v then here else below

-- the marks of a claim, by rising place: from the place of V_bec to the claim's place (own)
abbrev pub marks_of : Slopes → Claim → List Mark
marks_of on c = marks_from on c.svl (length on.uppers) (v_bec_of c)

-- the marks are in their ranges: 1 to 4,000 of them, each in the ranges of its line (own)
pub record AreMarksInRange (marks : List Mark) : Type 0 where
  pub some : 1 ≤ length marks
  pub few : length marks ≤ 4_000
  pub each : All IsMarkInRange marks

-- where the claim's front end with D_bec is at or before the computed place of V_bec, the marks of the claim hold
-- (own)
abbrev pub LawOfMadeMarks : Type 0
LawOfMadeMarks =
    (on : Slopes) (c : Claim) → IsUsable on → (c.front +ℤ pos (d_bec_of c)) ≤ℤ stepped on c.svl 0 (v_bec_of c) →
    Hold on c (marks_of on c)
