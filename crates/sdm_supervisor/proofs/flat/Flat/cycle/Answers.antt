-- The row is that of the computed place, which is the stepped place of the flat curve; so the laws of flat hold of it.
use Rattle.std.proofs.Common.{◌≡◌, ℕ, pos, Some, ◌<◌, Bool, IsTrue, not, ◌&&◌, ◌||◌, nat_lt, int_lt, to_z}
use Rattle.std.proofs.Common.{of_z, w64, ap, sym, subst, ◌∙◌, arith, rules}
use Rattle.std.proofs.lemmas.Int.{ints, to_z-of_z}
use Rattle.sdm_num.specs.Bounds.{mm_below}
use Rattle.sdm_rules.specs.Cells.{place_of_cell}
use Rattle.sdm_rules.specs.Curves.{exact, stepped}
use Rattle.sdm_rules.specs.Supervision.{whole_mm}
use Rattle.sdm_formats.specs.declared.flat_rows.FlatRow.{FlatRow}
use Rattle.sdm_formats.specs.Flat.{FlatLine, FlatSupervision, KeepsFlatOrder, after_flat_line, flat_slopes, flat_row}
use Rattle.sdm_supervisor.proofs.FlatFacts.{flat_machines, flat_stop}
use Rattle.sdm_supervisor.specs.FlatLines.{line_at}
use Rattle.sdm_supervisor.proofs.FlatCurves.{row_by_place, same_stepped, shown_place}
use Rattle.sdm_supervisor.proofs.FlatFormula.{ebi_is}
use Rattle.sdm_supervisor.proofs.flat.Flat.cycle.Goals as goal

-- the state after a line, by its parts
after_by_parts : (s : FlatSupervision) (l : FlatLine) (decel end : ℕ) (eb : Bool) → s.decel ≡ decel → s.end ≡ end →
    eb ≡ (flat_row s l).eb →
    record { decel = decel; end = end; last_time = Some l.time; eb = eb } ≡ after_flat_line s l
after_by_parts s l decel end eb a b e = rw (← a, ← b, e)

module _ (c : goal.After-is_passed_by) where
  -- the line that came
  abbrev line : FlatLine
  line = line_at c.args.time c.args.front c.args.speed

  -- the deceleration, the end and the command that are kept inside are those of the view
  decel_is : c.args.self.now.decel ≡ c.self.inside.decel
  decel_is = ap (λ (s : FlatSupervision). s.decel) (sym c.self.view_is)

  end_is : c.args.self.now.end ≡ c.self.inside.end_cm
  end_is = ap (λ (s : FlatSupervision). s.end) (sym c.self.view_is)

  held_is : c.args.self.now.eb ≡ c.self.inside.eb
  held_is = ap (λ (s : FlatSupervision). s.eb) (sym c.self.view_is)

  -- the place is the stepped one of the speed
  at_is : c.place-limit.result.at
      ≡ stepped (flat_slopes c.args.self.now.decel) (place_of_cell (pos c.args.self.now.end)) 0 c.args.speed
  at_is = rw (
    decel_is,
    end_is,
    ← same_stepped c.self.inside.decel
        (place_of_cell (pos c.self.inside.end_cm)) c.args.speed,
  )
      (rw (c.self.invariant.map_is, c.self.invariant.place_is, c.self.invariant.speed_is) at c.place-limit.ensures.at)

  -- the end is at its place
  place_is : c.of_cm_from_0-end.result ≡ place_of_cell (pos c.args.self.now.end)
  place_is = rw end_is c.of_cm_from_0-end.ensures

  -- the front end is past the place as the definitions say
  passed : c.is_passed_by.result ≡ int_lt c.place-limit.result.at c.args.front
  passed = search (rules, ints)

  -- the EBI in millimetres
  ebi : to_z w64 (of_z w64 c.whole_mm.result) ≡ mm_below c.place-limit.result.at
  ebi = to_z-of_z w64 c.whole_mm.result (search (rules, ints)) ∙ c.whole_mm.ensures

  -- the command after the line, by its definition
  eb : c.held_after-eb.result ≡ (((nat_lt 0 c.args.speed && int_lt c.place-limit.result.at c.args.front) || int_lt
      (place_of_cell (pos c.args.self.now.end)) c.args.front) || (c.args.self.now.eb && nat_lt 0 c.args.speed))
  eb = c.held_after-eb.ensures ∙ rw (c.is_emergency.ensures, place_is, held_is)

  -- the row is the flat row of the line
  row_is : record {
    time = c.args.time;
    ebi = to_z w64 (of_z w64 c.whole_mm.result);
    covered =
        not c.is_passed_by.result;
    eb = c.held_after-eb.result;
  } ≡ flat_row c.args.self.now line
  row_is = rw (row_by_place c.args.self.now line c.place-limit.result.at at_is, ebi, passed, eb)

  -- a flat supervisor's deceleration is above 0
  some : 0 < c.args.self.now.decel
  some = rw decel_is (omega (arith, c.self.invariant.low))

pub returns-clause-row : goal.returns-clause-row
returns-clause-row c = row_is c

pub returns-clause-after : goal.returns-clause-after
returns-clause-after c =
    after_by_parts c.args.self.now (line c) _ _ _ (decel_is c) (end_is c) (ap (λ (r : FlatRow). r.eb) (row_is c))

pub returns-clause-order : goal.returns-clause-order
returns-clause-order c = subst (λ (r : FlatRow). KeepsFlatOrder c.args.self.now (line c) r.eb) (sym (row_is c))
    (flat_machines c.args.self.now (line c) (some c))

pub returns-clause-stop : goal.returns-clause-stop
returns-clause-stop c covered =
    flat_stop c.args.self.now (line c) (some c) (subst (λ (r : FlatRow). IsTrue r.covered) (row_is c) covered)

pub returns-clause-ebi : goal.returns-clause-ebi
returns-clause-ebi c v is =
    ap (λ (r : FlatRow). r.ebi) (row_is c) ∙ shown_place c.args.self.now (line c)
    ∙ ap (λ (n : ℕ). whole_mm (exact (flat_slopes c.args.self.now.decel)
    (place_of_cell (pos c.args.self.now.end)) 0 n)) is
    ∙ ebi_is c.args.self.now.decel c.args.self.now.end v (some c)
