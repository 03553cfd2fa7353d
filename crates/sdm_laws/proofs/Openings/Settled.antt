-- From some cell on the slopes of every kind and band stay the same: past all starts of gradients, and past all areas
-- by the train length, the track under the train changes no more. So what is asked of all cells is asked of finitely
-- many.
use Rattle.std.proofs.Common.{◌≡◌, ℕ, ℤ, zero, suc, pos, false, List, [], ◌∷◌, ◌+◌, ◌≤◌, ◌*◌, ◌+ℤ◌, ◌-ℤ◌, ◌≤ℤ◌, int_le}
use Rattle.std.proofs.Common.{unsigned_abs, refl, ap, ◌∙◌, arith}
use Rattle.std.proofs.lemmas.Int.{ints, clamps}
use Rattle.std.proofs.Math.Bool.{and-false}
use Rattle.std.specs.Int.{int_min, int_max}
use Rattle.std.specs.List.{list_any}
use Rattle.sdm_num.proofs.Comparisons.{le_is, not_lt_is}
use Rattle.sdm_rules.specs.declared.data.Area.{Area}
use Rattle.sdm_rules.specs.declared.data.Gradient.{Gradient}
use Rattle.sdm_rules.specs.declared.data.SlopeKind.{SlopeKind}
use Rattle.sdm_rules.specs.Cells.{lowest, last_at}
use Rattle.sdm_rules.specs.Data.{TrainAndTrack, TrackData}
use Rattle.sdm_rules.specs.Decelerations.{track_gradient, is_in_force, under_train, slope_at}

-- ---- gradients

-- past this cell no gradient starts
abbrev past_starts : List Gradient → ℕ
past_starts [] = 0
past_starts (e ∷ es) = unsigned_abs e.start + past_starts es

-- past all starts the last entry at or before a cell is the same
last_settled : (es : List Gradient) (c c' : ℤ) (before : ℤ) → pos (past_starts es) ≤ℤ c → pos (past_starts es) ≤ℤ c' →
    last_at (λ e. e.start) (λ e. e.grad) es c before ≡ last_at (λ e. e.start) (λ e. e.grad) es c' before
last_settled [] c c' before h h' = refl
last_settled (e ∷ es) c c' before h h' =
    let one = le_is e.start c (omega (arith, ints)) in
    let two = le_is e.start c' (omega (arith, ints)) in
    rw (one, two) (last_settled es c c' e.grad (omega (arith, ints)) (omega (arith, ints)))

-- past all starts the gradient stays the same
gradient_settled : (es : List Gradient) (c c' : ℤ) → pos (past_starts es) ≤ℤ c → pos (past_starts es) ≤ℤ c' →
    track_gradient es c ≡ track_gradient es c'
gradient_settled [] c c' h h' = refl
gradient_settled (e ∷ es) c c' h h' = last_settled es c c' e.grad (omega (arith, ints)) (omega (arith, ints))

-- and so does the least gradient over any number of cells
lowest_settled : (es : List Gradient) (n : ℕ) (c c' : ℤ) → pos (past_starts es) ≤ℤ c → pos (past_starts es) ≤ℤ c' →
    lowest int_min (track_gradient es) c n ≡ lowest int_min (track_gradient es) c' n
lowest_settled es zero c c' h h' = gradient_settled es c c' h h'
lowest_settled es (suc n) c c' h h' =
    let here = gradient_settled es c c' h h' in
    let rest = lowest_settled es n (c +ℤ pos 1) (c' +ℤ pos 1) (omega (arith, ints)) (omega (arith, ints)) in
    ap (λ (g : ℤ). int_min g (lowest int_min (track_gradient es) (c +ℤ pos 1) n)) here
    ∙ ap (λ (g : ℤ). int_min (track_gradient es c') g) rest

-- ---- areas

-- past this cell no area is in force
abbrev past_areas : ℤ → List Area → ℕ
past_areas length_cm [] = 0
past_areas length_cm (a ∷ more) = unsigned_abs a.end + unsigned_abs length_cm + past_areas length_cm more

-- past all areas by the train length none is in force
none_in_force : (length_cm : ℤ) (areas : List Area) (c : ℤ) → pos (past_areas length_cm areas) ≤ℤ c →
    list_any (is_in_force length_cm c) areas ≡ false
none_in_force length_cm [] c h = refl
none_in_force length_cm (a ∷ more) c h =
    let here = not_lt_is c (a.end +ℤ length_cm) (omega (arith, ints)) in
    rw (here, and-false (int_le a.start c)) (none_in_force length_cm more c (omega (arith, ints)))

-- ---- slopes

-- from this cell on nothing changes under a train of a length in cm
abbrev past_lists : TrackData → ℤ → ℕ
past_lists track length_cm =
    past_starts track.gradients + past_areas length_cm track.areas + past_areas length_cm track.no_special
    + 2 * unsigned_abs length_cm

-- from this cell on nothing changes
abbrev pub settled_from : TrainAndTrack → ℕ
settled_from d = past_lists d.track d.train.length_cm

-- past all lists by the train length the track under the train stays the same
under_settled : (track : TrackData) (length_cm : ℤ) (c c' : ℤ) →
    pos (past_lists track length_cm) ≤ℤ c → pos (past_lists track length_cm) ≤ℤ c' →
    under_train track length_cm c ≡ under_train track length_cm c'
under_settled track length_cm c c' h h' =
    let grad = lowest_settled track.gradients (unsigned_abs length_cm) (c -ℤ length_cm) (c' -ℤ length_cm)
    (omega (arith, ints)) (omega (arith, ints)) in
    let here = none_in_force length_cm track.areas c (omega (arith, ints)) in
    let there = none_in_force length_cm track.areas c' (omega (arith, ints)) in
    let unaided_here = none_in_force length_cm track.no_special c (omega (arith, ints)) in
    let unaided_there = none_in_force length_cm track.no_special c' (omega (arith, ints)) in
    cc

from_0 : (c : ℕ) → int_max (pos c) (pos 0) ≡ pos c
from_0 c = omega (arith, ints, clamps)

-- from the settled cell on the slope of a kind and band stays the same
pub slope_settled : (kind : SlopeKind) (d : TrainAndTrack) (band c c' : ℕ) → settled_from d ≤ c → settled_from d ≤ c' →
    slope_at kind d band (pos c) ≡ slope_at kind d band (pos c')
unfolding slope_at
slope_settled kind d band c c' h h' =
    let same = under_settled d.track d.train.length_cm (pos c) (pos c') (omega (arith, ints)) (omega (arith, ints)) in
    rw (from_0 c, from_0 c', same) refl
