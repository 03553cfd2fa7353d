-- The flat supervisor: its one slope is usable, so its curve has the laws of curves; its commands are triggers on the
-- curve's place, and a motion from a covered line stops by the curve's foot.
use Rattle.std.proofs.Common.{◌≡◌, ℤ, pos, neg_ℤ, false, nat_lt, ◌*◌, ◌+ℤ◌, subst, sym, arith}
use Rattle.std.proofs.lemmas.Int.{ints}
use Rattle.std.proofs.lemmas.Bool.{not-true}
use Rattle.sdm_rules.specs.Cells.{place_of_cell}
use Rattle.sdm_rules.specs.Curves.{stepped}
use Rattle.sdm_rules.specs.Limits.{computed}
use Rattle.sdm_rules.specs.Triggers.{is_past}
use Rattle.sdm_formats.specs.Flat.{flat_slopes, flat_start, flat_row, flat_after}
use Rattle.sdm_laws.proofs.Rows.Nearness.{exact_sooner, low_sooner}
use Rattle.sdm_laws.proofs.BrakeCurves.CurveNearness.{near_on}
use Rattle.sdm_laws.proofs.Rows.TriggerOrder.{same, or_implies, and_implies}
use Rattle.sdm_laws.proofs.Rows.Stops.{stops_before}
use Rattle.sdm_supervisor.specs.FlatLaws.{LawOfFlatSlopes, LawOfFlatMachines, LawOfFlatStop}

-- the slope of a level track is usable
pub flat_usable : LawOfFlatSlopes
flat_usable decel some = record {
  unit = omega arith;
  few = omega arith;
  rising = λ i j le lt. absurd (omega arith);
  positive = λ band known c. omega arith;
  even = λ band known c c'. omega arith;
}

-- the three commands stay in order over each line
pub flat_machines : LawOfFlatMachines
unfolding flat_row flat_after
flat_machines s l some must may order =
    let near = near_on (flat_slopes s.decel) (flat_usable s.decel some) (place_of_cell (pos s.end)) 0 l.speed in
    record {
      needed = or_implies _ _ _ _
          (or_implies _ _ _ _ (and_implies (nat_lt 0 l.speed) _ _ _ (same _) ((exact_sooner _ _ near).passed l.front))
          (same _))
          (and_implies must s.eb _ _ order.needed (same _));
      allowed = or_implies _ _ _ _
          (or_implies _ _ _ _ (and_implies (nat_lt 0 l.speed) _ _ _ (same _) ((low_sooner _ _ near).passed l.front))
          (same _))
          (and_implies s.eb may _ _ order.allowed (same _));
    }

-- from each covered line every motion stops by the end
pub flat_stop : LawOfFlatStop
unfolding flat_row
flat_stop s l some covered =
    let on = flat_slopes s.decel in
    let foot = place_of_cell (pos s.end) in
    let at = stepped on foot 0 l.speed in
    let free = not-true (is_past 0 l.front (computed on foot 0 l.speed)) covered in
    let same_place : at +ℤ neg_ℤ (pos (0 * 1)) ≡ at = omega (arith, ints) in
    stops_before on (flat_usable s.decel some) (flat_start l) foot l.speed 0 (omega arith) (omega arith)
    (subst (λ (n : ℤ). is_past 0 l.front (record { n = n; m = 1 }) ≡ false) (sym same_place) free)
