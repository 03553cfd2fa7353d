-- A step of the code is one of the definitions, by what it found and did; it keeps what every drive keeps, and that
-- gives the ranges of all numbers.
use Rattle.std.proofs.Common.{◌≡◌, ℕ, ℤ, pos, Bool, Option, suc, ◌*◌, ◌<◌, ◌≤ℤ◌}
use Rattle.std.proofs.Common.{refl, ap, sym, subst, arith, ◌∙◌}
use Rattle.std.proofs.lemmas.Int.{ints}
use Rattle.sdm_num.specs.Readings.{OdometerReading}
use Rattle.sdm_rules.specs.declared.authorities.Authority.TheVariants.{Stop}
use Rattle.sdm_rules.specs.declared.data.SlopeKind.TheVariants.{Safe}
use Rattle.sdm_rules.specs.declared.rows.Row.{Row}
use Rattle.sdm_rules.specs.Cells.{place_of_cell}
use Rattle.sdm_rules.specs.Slopes.{Slopes}
use Rattle.sdm_rules.specs.Supervision.{Supervision, after_reading, row_of}
use Rattle.sdm_rules.specs.Within.{is_within_svl}
use Rattle.sdm_formats.specs.Trial.{next_number}
use Rattle.sdm_laws.proofs.Rows.Headline.{open_usable}
use Rattle.sdm_drive.specs.declared.orders.Orders.{Orders}
use Rattle.sdm_drive.specs.Drive.{Drive, TrueTrain, after_several_ds, after_step, after_step_from, brake_delay}
use Rattle.sdm_drive.specs.Drive.{brake_of, drive_row, last_within, next_reading, onset_after, orders_after}
use Rattle.sdm_drive.specs.Drive.{reading_by, step_time, stops_in}
use Rattle.sdm_drive.specs.DriveLaws.{IsInRanges, most_steps}
use Rattle.sdm_drive.specs.Kept.{IsKeptDrive}
use Rattle.sdm_drive.proofs.Ranges.{step_ranged}
use Rattle.sdm_drive.proofs.Steps.{by_svl, ranges_of, step_held}

-- a drive by its parts
abbrev pub drive_of : Supervision → TrueTrain → ℕ → ℕ → Option ℕ → Option ℕ → Drive
drive_of supervision train number steps last onset = record {
  supervision = supervision;
  train = train;
  number = number;
  steps = steps;
  last = last;
  onset = onset;
}

-- ---- what is kept

-- a step keeps it
pub kept_step : (s : Drive) → IsKeptDrive s → s.steps < most_steps → IsKeptDrive (after_step s)
unfolding after_step_from
kept_step s k few = record {
  eoa = k.eoa;
  svl = k.svl;
  on_track = k.on_track;
  held = step_held k.eoa k.svl s k.held;
  ranged = step_ranged s.steps s (open_usable s.supervision k.held.is_open Safe) k.ranged;
  few = few;
}

-- it gives the ranges of the next step
pub kept_ranges : (s : Drive) → IsKeptDrive s → s.steps < most_steps → IsInRanges 10_000_000 s
kept_ranges s k few =
    let r = ranges_of k.eoa k.svl s.steps s k.held k.ranged k.on_track few in
    let by = r.by_svl in
    let short = k.on_track in
    record {
      from_start = r.from_start;
      by_svl = omega (arith, ints);
      speed = r.speed;
      reading = r.reading;
      in_time = r.in_time;
    }

-- after a step the train is at or before the SvL
pub step_by_svl : (s : Drive) → IsKeptDrive s → (eoa svl : ℕ) → s.supervision.authority ≡ Stop eoa svl 0 →
    (after_step s).train.place ≤ℤ place_of_cell (pos svl)
step_by_svl s k eoa svl is =
    let same : k.svl ≡ svl = same_svl k.eoa k.svl eoa svl (sym k.held.authority ∙ is) in
    subst (λ (n : ℕ). (after_step s).train.place ≤ℤ place_of_cell (pos n)) same
    (by_svl k.eoa k.svl (after_step s) (step_held k.eoa k.svl s k.held))
  where
    same_svl : (eoa svl eoa' svl' : ℕ) → Stop eoa svl 0 ≡ Stop eoa' svl' 0 → svl ≡ svl'
    same_svl eoa svl eoa' svl' e = cc

-- ---- one step

-- what a step found and did is what the definitions say
pub record IsStepOf (s : Drive) (r : OdometerReading) (row : Row) (o : Orders) (last : Option ℕ) (t : TrueTrain)
    (stops : ℕ) : Type 0 where
  pub reading : r ≡ next_reading s
  pub row_is : row ≡ row_of s.supervision (next_reading s)
  pub orders : o ≡ orders_after s (next_reading s)
  pub last_is : last ≡ last_within o.within (next_reading s).time s.last
  pub train : t ≡ after_several_ds (brake_of s) o (next_reading s).time step_time s.train
  pub stopped : stops ≡ stops_in (brake_of s) o (next_reading s).time step_time s.train

-- the time of the next reading
next_time : (s : Drive) → (next_reading s).time ≡ step_time * suc s.steps
unfolding reading_by
next_time s = refl

-- the orders of a reading, by their parts
orders_are : (s : Drive) (r : OdometerReading) (row : Row) (within : Bool) (last onset : Option ℕ) (accel : ℤ) →
    row ≡ row_of s.supervision r → within ≡ is_within_svl s.supervision r → last ≡ last_within within r.time s.last →
    onset ≡ onset_after row.held.eb s.onset last r.time (brake_delay s.supervision.train_and_track) →
    accel ≡ r.accel →
    record { eb = row.held.eb; onset = onset; within = within; accel = accel } ≡ orders_after s r
unfolding orders_after
orders_are s r row within last onset accel row_is within_is last_is onset_is accel_is =
    let delay = brake_delay s.supervision.train_and_track in
    let onset_as = onset_is ∙ (λ k. onset_after (row_is k).held.eb s.onset
    ((last_is ∙ ap (λ w. last_within w r.time s.last) within_is) k) r.time delay) in
    λ k. record { eb = (row_is k).held.eb; onset = onset_as k; within = within_is k; accel = accel_is k }

-- the next reading, by its parts
pub next_is : (s : Drive) (r : OdometerReading) (inhibited : Bool) (time number : ℕ) →
    r ≡ reading_by inhibited time number s.train →
    inhibited ≡ s.supervision.train_and_track.national.inhibit_under_reading → time ≡ step_time * suc s.steps →
    number ≡ next_number s.number → r ≡ next_reading s
next_is s r inhibited time number read inhibited_is time_is number_is =
    read ∙ (λ k. reading_by (inhibited_is k) (time_is k) (number_is k) s.train)

-- a step by what the code says of its parts
pub step_of : (s : Drive) (r : OdometerReading) (row : Row) (within : Bool) (last onset : Option ℕ) (accel : ℤ)
    (on : Slopes) (time : ℕ) (t : TrueTrain) (stops : ℕ) → r ≡ next_reading s → row ≡ row_of s.supervision r →
    within ≡ is_within_svl s.supervision r → last ≡ last_within within time s.last →
    onset ≡ onset_after row.held.eb s.onset last time (brake_delay s.supervision.train_and_track) →
    accel ≡ r.accel → on ≡ brake_of s → time ≡ step_time * suc s.steps →
    (let o : Orders = record { eb = row.held.eb; onset = onset; within = within; accel = accel } in
    (t ≡ after_several_ds on o time step_time s.train) → stops ≡ stops_in on o time step_time s.train →
    IsStepOf s r row o last t stops)
step_of s r row within last onset accel on time t stops r_is row_is within_is last_is onset_is accel_is on_is time_is
    t_is stops_are =
    let of_next : time ≡ (next_reading s).time = time_is ∙ sym (next_time s) in
    let row_as = row_is ∙ ap (row_of s.supervision) r_is in
    let last_as = last_is ∙ ap (λ n. last_within within n s.last) of_next in
    let delay = brake_delay s.supervision.train_and_track in
    let o : Orders = record { eb = row.held.eb; onset = onset; within = within; accel = accel } in
    record {
      reading = r_is;
      row_is = row_as;
      orders = orders_are s (next_reading s) row within last onset accel row_as
          (within_is ∙ ap (is_within_svl s.supervision) r_is) last_as
          (onset_is ∙ ap (λ n. onset_after row.held.eb s.onset last n delay) of_next)
          (accel_is ∙ ap (λ (x : OdometerReading). x.accel) r_is);
      last_is = last_as;
      train = t_is ∙ (λ k. after_several_ds (on_is k) o (of_next k) step_time s.train);
      stopped = stops_are ∙ (λ k. stops_in (on_is k) o (of_next k) step_time s.train);
    }

module _ (s : Drive) (r : OdometerReading) (row : Row) (o : Orders) (last : Option ℕ) (t : TrueTrain) (stops : ℕ)
    (h : IsStepOf s r row o last t stops) where
  -- the train after it
  train_is : t ≡ after_several_ds (brake_of s) (orders_after s (next_reading s)) (next_reading s).time step_time s.train
  train_is = h.train
      ∙ ap (λ (x : Orders). after_several_ds (brake_of s) x (next_reading s).time step_time s.train) h.orders

  -- so is the drive after it
  pub state_is : (after : Supervision) (number steps : ℕ) → after ≡ after_reading s.supervision r →
      number ≡ next_number s.number → steps ≡ suc s.steps → drive_of after t number steps last o.onset ≡ after_step s
  unfolding after_step_from
  state_is after number steps after_is number_is steps_are =
      let after_as = after_is ∙ ap (after_reading s.supervision) h.reading in
      let last_as =
      h.last_is ∙ ap (λ (x : Orders). last_within x.within (next_reading s).time s.last) h.orders in
      λ k. record {
        supervision = after_as k;
        train = train_is k;
        number = number_is k;
        steps = steps_are k;
        last = last_as k;
        onset = (h.orders k).onset;
      }

  -- and its row
  pub row_is : record { row = row; front = t.place; speed = t.speed; stops = stops } ≡ drive_row s
  unfolding drive_row after_step_from
  row_is =
      let stops_as =
      h.stopped ∙ ap (λ (x : Orders). stops_in (brake_of s) x (next_reading s).time step_time s.train) h.orders in
      λ k. record {
        row = h.row_is k;
        front = (train_is k).place;
        speed = (train_is k).speed;
        stops = stops_as k;
      }
