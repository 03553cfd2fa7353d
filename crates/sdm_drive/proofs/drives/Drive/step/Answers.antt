-- The parts of a step are those of the definitions, and what the drive keeps gives the ranges of its numbers.
use Rattle.std.proofs.Common.{◌≡◌, ℤ, pos, ◌+◌, ◌*◌, ◌<◌, ◌≤ℤ◌, ap, sym, subst, arith, rules, to_z, of_z, w16, ◌∙◌}
use Rattle.std.proofs.lemmas.Int.{ints, to_z-of_z}
use Rattle.std.proofs.lemmas.Option.{none-some}
use Rattle.sdm_num.specs.Readings.{OdometerReading}
use Rattle.sdm_rules.specs.declared.authorities.Authority.TheVariants.{Stop}
use Rattle.sdm_rules.specs.declared.data.SlopeKind.TheVariants.{Safe}
use Rattle.sdm_rules.specs.Cells.{place_of_cell}
use Rattle.sdm_rules.specs.Decelerations.{slopes_of}
use Rattle.sdm_rules.specs.Records.{time_fault}
use Rattle.sdm_rules.specs.Slopes.{meaning_of}
use Rattle.sdm_rules.specs.Supervision.{Supervision, after_reading}
use Rattle.sdm_drive.specs.declared.orders.Orders.{Orders}
use Rattle.sdm_drive.specs.Drive.{Drive, after_step, drive_row, onset_after, step_time}
use Rattle.sdm_drive.specs.DriveLaws.{most_steps}
use Rattle.sdm_drive.specs.Kept.{IsKeptDrive}
use Rattle.sdm_drive.proofs.StepLaws.{IsStepOf, kept_ranges, kept_step, next_is, row_is, state_is, step_by_svl, step_of}
use Rattle.sdm_drive.proofs.StepLaws.{drive_of}
use Rattle.sdm_drive.proofs.drives.Drive.step.Goals as goal

pub reading_by-reading-requires-clause-place : goal.reading_by-reading-requires-clause-place
reading_by-reading-requires-clause-place c =
    let few = subst (λ (s : Drive). s.steps < most_steps) (sym c.self.view_is) c.requires in
    let ranges = kept_ranges _ c.self.invariant few in
    omega (arith, ints, ranges.by_svl)

pub unreachable-requires : goal.unreachable-requires
unreachable-requires c =
    let inside = c.self.inside in
    let few = subst (λ (s : Drive). s.steps < most_steps) (sym c.self.view_is) c.requires in
    let ranges = kept_ranges _ c.self.invariant few in
    let s = drive_of inside.supervisor inside.train inside.number inside.steps inside.last inside.onset in
    let read = next_is s c.reading_by-reading.result c.inhibits_under_reading-inhibited.result _ _
    c.reading_by-reading.ensures c.inhibits_under_reading-inhibited.ensures (omega arith)
    c.next_number-number.ensures in
    none-some _ (sym ranges.in_time
    ∙ sym (ap (λ (r : OdometerReading). time_fault inside.supervisor.last_time r.time) read)
    ∙ c.in_default.ensures.time_back)

pub moved-moved-requires-clause-place : goal.moved-moved-requires-clause-place
moved-moved-requires-clause-place c =
    let few = subst (λ (s : Drive). s.steps < most_steps) (sym c.self.view_is) c.requires in
    let ranges = kept_ranges _ c.self.invariant few in
    omega (arith, ints, ranges.by_svl)

module _ (c : goal.After-moved) where
  -- the drive before the step, from what is kept inside
  abbrev before : Drive
  before =
      let inside = c.self.inside in
      drive_of inside.supervisor inside.train inside.number inside.steps inside.last inside.onset

  few : before.steps < most_steps
  few = subst (λ (s : Drive). s.steps < most_steps) (sym c.self.view_is) c.requires

  -- the acceleration of the reading, as it is ordered
  abbrev accel : ℤ
  accel = to_z w16 (of_z w16 c.accel.result)

  abbrev orders : Orders
  orders = record {
    eb = c.in-Ok.row.held.eb;
    onset = c.onset_after.result;
    within = c.within_svl-within.result;
    accel = accel;
  }

  is_step : IsStepOf before c.reading_by-reading.result c.in-Ok.row orders c.last_within-last.result
      c.moved-moved.result.train c.moved-moved.result.stops
  unfolding after_reading
  is_step =
      let read = next_is before c.reading_by-reading.result c.inhibits_under_reading-inhibited.result _ _
      c.reading_by-reading.ensures c.inhibits_under_reading-inhibited.ensures (omega arith)
      c.next_number-number.ensures in
      let onset = c.onset_after.ensures
      ∙ ap (onset_after c.in-Ok.row.held.eb c.self.inside.onset c.last_within-last.result
      (step_time * (before.steps + 1))) c.brake_delay-delay.ensures.value in
      let on = c.safe_map.ensures.slopes
      ∙ ap (λ (s : Supervision). slopes_of Safe s.train_and_track) c.in-Ok.ensures.taken in
      step_of before c.reading_by-reading.result c.in-Ok.row c.within_svl-within.result c.last_within-last.result
      c.onset_after.result accel (meaning_of c.safe_map.result.now) (step_time * (before.steps + 1)) _ _ read
      c.in-Ok.ensures.row c.within_svl-within.ensures.value c.last_within-last.ensures onset
      (to_z-of_z w16 c.accel.result (search rules) ∙ c.accel.ensures) on (omega arith) c.moved-moved.ensures.train
      c.moved-moved.ensures.stops

  -- the drive after the step
  after_is : drive_of c.cycle.new.self c.moved-moved.result.train c.next_number-number.result (before.steps + 1)
      c.last_within-last.result c.onset_after.result ≡ after_step before
  after_is = state_is before _ _ _ _ _ _ is_step c.cycle.new.self c.next_number-number.result (before.steps + 1)
      c.in-Ok.ensures.taken c.next_number-number.ensures (omega arith)

pub invariant_of-self : goal.invariant_of-self
invariant_of-self c = subst IsKeptDrive (sym (after_is c)) (kept_step (before c) c.self.invariant (few c))

pub returns-clause-row : goal.returns-clause-row
returns-clause-row c =
    subst (λ (s : Drive). record {
      row = c.in-Ok.row;
      front = c.moved.inside.0.0.place;
      speed = c.moved.inside.0.0.speed;
      stops = c.moved.inside.0.1.0;
    } ≡ drive_row s) c.self.view_is
    ((λ k. record {
      row = c.in-Ok.row;
      front = (c.moved.view_is k).train.place;
      speed = (c.moved.view_is k).train.speed;
      stops = (c.moved.view_is k).stops;
    }) ∙ row_is (before c) _ _ _ _ _ _ (is_step c))

pub returns-clause-stepped : goal.returns-clause-stepped
returns-clause-stepped c = after_is c ∙ ap after_step c.self.view_is

pub returns-clause-by_svl : goal.returns-clause-by_svl
returns-clause-by_svl c eoa svl stop =
    let authority = subst (λ (s : Drive). s.supervision.authority ≡ Stop eoa svl 0) (sym c.self.view_is) stop in
    let place = (λ k. (c.moved.view_is k).train.place) ∙ ap (λ (s : Drive). s.train.place) (after_is c) in
    subst (λ (z : ℤ). z ≤ℤ place_of_cell (pos svl)) (sym place)
    (step_by_svl (before c) c.self.invariant eoa svl authority)
