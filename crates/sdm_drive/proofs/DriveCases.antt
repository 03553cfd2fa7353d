-- Drives, and what their parts say of single trains, worked by hand and by a model apart from the program. The train
-- brakes with 1 m/s², from 2 s after the command on.
use Rattle.std.proofs.Common.{◌≡◌, ℕ, zero, suc, pos, refl, ap, sym, ◌∙◌, ◌*◌, ◌+◌, ◌<◌, arith}
use Rattle.std.proofs.lemmas.Int.{ints}
use Rattle.std.specs.Prelude.{negsuc, true, false, List, [], ◌∷◌, Some, None, codes, map, is_some, int_lt}
use Rattle.std.specs.Prelude.{if◌then◌else◌}
use Rattle.std.specs.Fmt.{digits}
use Rattle.std.specs.FinMap as finite
use Rattle.std.specs.Ordering.{nat_cmp}
use Rattle.std.proofs.lemmas.List.{nil_from_length}
use Rattle.sdm_num.specs.Readings.{OdometerReading, reading_of}
use Rattle.sdm_rules.specs.declared.data.SlopeKind.{SlopeKind}
use Rattle.sdm_rules.specs.declared.data.SlopeKind.TheVariants.{Safe, Expected, Normal}
use Rattle.sdm_rules.specs.declared.restrictions.Restriction.{Restriction}
use Rattle.sdm_rules.specs.Slopes.{Slopes}
use Rattle.sdm_rules.specs.Data.{TrainAndTrack}
use Rattle.sdm_rules.specs.Decelerations.{slope_at, slopes_of}
use Rattle.sdm_rules.specs.Profile.{mrsp, lowest_between}
use Rattle.sdm_rules.specs.Targets.{targets_of}
use Rattle.sdm_rules.specs.Reaction.{reaction_times, service_in_use}
use Rattle.sdm_rules.specs.Curves.{place_at, corner, arc, stepped, arc_back, back}
use Rattle.sdm_rules.specs.Limits.{limits_of, release_start}
use Rattle.sdm_rules.specs.Triggers.{Situation, triggers_of}
use Rattle.sdm_rules.specs.Commands.{commands_after, emergency_after}
use Rattle.sdm_rules.specs.Supervision.{Supervision, after_reading, commands_in, is_covered_in, is_past_end, release_of}
use Rattle.sdm_rules.specs.Supervision.{row_in, situation_of, state_in}
use Rattle.sdm_rules.specs.Opening.{IsAcceptedKind, IsStrong, IsEven}
use Rattle.sdm_rules.specs.Within.{is_within_svl}
use Rattle.sdm_formats.specs.Trial.{next_number}
use Rattle.sdm_drive.specs.declared.orders.Orders.{Orders}
use Rattle.sdm_drive.specs.declared.rows.DriveRow.{DriveRow}
use Rattle.sdm_drive.specs.Drive.{Drive, after_braking, after_braking_with, after_driving, after_ds}
use Rattle.sdm_drive.specs.Drive.{after_several_ds, read_speed}
use Rattle.sdm_drive.specs.Drive.{after_step, after_step_from, brake_delay, brake_of, drive_output, drive_row}
use Rattle.sdm_drive.specs.Drive.{drive_rows, drive_text, greatest_slope, last_within, next_reading, onset_after}
use Rattle.sdm_drive.specs.Drive.{orders_after, reading_by, speed_loss, step_time, stopping_distance, stops_in}
use Rattle.sdm_drive.specs.DriveLaws.{IsDrivable, start_under}

-- ---- braking, by 1 m/s² with q = 100

-- from 10,000 notches, which is 185.185 mm/s, to 85.185 mm/s, over 13.5185 mm
falls : after_braking_with 100 200_000_000_000 (record { place = pos 1; speed = 10_000 })
    ≡ record { place = pos 7_300_000_001; speed = 4_600 }
unfolding speed_loss
falls = refl

-- from there it stops after 3.628 mm
stops : after_braking_with 100 200_000_000_000 (record { place = pos 0; speed = 4_600 })
    ≡ record { place = pos 1_959_259_259; speed = 0 }
unfolding speed_loss stopping_distance
stops = refl

-- a speed that is lost in just one ds
stops_at_the_end : after_braking_with 100 200_000_000_000 (record { place = pos 0; speed = 5_400 })
    ≡ record { place = pos 2_700_000_000; speed = 0 }
unfolding speed_loss
stops_at_the_end = refl

-- a little more slope takes a notch more
loss_is_rounded_up : speed_loss 100 200_000_000_001 ≡ 5_401
unfolding speed_loss
loss_is_rounded_up = refl

-- slopes of 5 in the cells up to 1 and of 7 from cell 2 on, one more in the upper band
two_slopes : Slopes
two_slopes = record {
  q = 100;
  uppers = 1_000 ∷ [];
  slope = λ band cell. band + (if int_lt cell (pos 2) then 5 else 7);
}

greatest_to_cell_1 : greatest_slope two_slopes (negsuc 2) (pos 1) ≡ 6
unfolding greatest_slope two_slopes
greatest_to_cell_1 = refl

greatest_to_cell_2 : greatest_slope two_slopes (negsuc 2) (pos 2) ≡ 8
unfolding greatest_slope two_slopes
greatest_to_cell_2 = refl

-- ---- driving

-- a train of less than 19 mm/s stands after a ds of -19 cm/s²
stands_by_driving : after_driving (negsuc 18) (record { place = pos 0; speed = 1_000 })
    ≡ record { place = pos 500_000_000; speed = 0 }
unfolding after_driving
stands_by_driving = refl

-- at its greatest speed it gets no faster
no_faster : after_driving (pos 39) (record { place = pos 0; speed = 7_499_952 })
    ≡ record { place = pos 7_499_952_000_000; speed = 7_499_952 }
unfolding after_driving
no_faster = refl

-- ---- readings by the number 19570, with errors of 4567 mm and 70 mm/s, and 30 cm/s²

-- of a train at 48.75 mm with 195 mm/s
read_low : reading_by false 15 19_570 (record { place = pos 26_325_000_000; speed = 10_530 })
    ≡ reading_of 15 (negsuc 383) (negsuc 5_383) (pos 4_616) 125 (pos 30) 500
unfolding reading_by
read_low = refl

-- with a notch more, where the compensation of under-reading is inhibited
read_up : reading_by true 15 19_570 (record { place = pos 26_325_000_000; speed = 10_531 })
    ≡ reading_of 15 (negsuc 383) (negsuc 5_383) (pos 4_616) 196 (pos 30) 0
unfolding reading_by
read_up = refl

-- a slow train is read to move, a standing one not
read_slow : map (read_speed false 19_570) (0 ∷ 1 ∷ 70 * 54 ∷ 72 * 54 ∷ []) ≡ 0 ∷ 1 ∷ 1 ∷ 2 ∷ []
read_slow = refl

-- ---- the onset, with a delay of 20 ds

-- of a command at 60 ds, with the last reading within the SvL at 55 ds; while the command stays, so does it
onset_of_command : onset_after true None (Some 55) 60 20 ≡ Some 75
onset_of_command = refl

onset_stays : onset_after true (Some 75) (Some 65) 65 20 ≡ Some 75
onset_stays = refl

-- with no reading within the SvL, and without a command
onset_at_the_reading : onset_after true None None 60 20 ≡ Some 80
onset_at_the_reading = refl

onset_released : onset_after false (Some 75) (Some 65) 65 20 ≡ None
onset_released = refl

-- ---- drives without restrictions: a finite map doesn't show by computing that it is empty, so the list of those in
-- force is handed over

none_in_force : finite.entries (finite.empty {X = Restriction} {R = nat_cmp}) ≡ []
none_in_force = nil_from_length _ (sym (finite.len-entries finite.empty) ∙ finite.len-empty nat_cmp Restriction)

-- what the triggers look at with these restrictions in force
situation_with : List Restriction → Supervision → OdometerReading → Situation
situation_with restrictions s r =
    let d = s.train_and_track in
    let release = release_of d s.authority r.max in
    let profile = mrsp d.train d.track restrictions in
    record {
      speed = r.speed;
      ceiling_kmh = lowest_between profile r.min r.max;
      est = r.est;
      front = r.max;
      targets = targets_of profile s.authority r.max (is_some release);
      past_end = is_past_end s.authority r.min;
      release = release;
      in_use = service_in_use d;
    }

-- what a reading orders in a situation
orders_in : Drive → OdometerReading → Situation → Orders
orders_in s r now =
    let d = s.supervision.train_and_track in
    let eb = (commands_in d s.supervision.commands r now).eb in
    let within = is_within_svl s.supervision r in
    record {
      eb = eb;
      onset = onset_after eb s.onset (last_within within r.time s.last) r.time (brake_delay d);
      within = within;
      accel = r.accel;
    }

-- the row of a reading in a situation, and the drive after its step
step_in : Drive → OdometerReading → Situation → DriveRow × Drive
step_in s r now =
    let d = s.supervision.train_and_track in
    let orders = orders_in s r now in
    let train = after_several_ds (brake_of s) orders r.time step_time s.train in (
      record {
        row = row_in d s.supervision.commands r now;
        front = train.place;
        speed = train.speed;
        stops = stops_in (brake_of s) orders r.time step_time s.train;
      },
      record s {
        supervision = record s.supervision {
          last_time = Some r.time;
          commands = commands_in d s.supervision.commands r now;
        };
        train = train;
        number = next_number s.number;
        steps = suc s.steps;
        last = last_within orders.within r.time s.last;
        onset = orders.onset;
      },
    )

-- the rows of so many steps without restrictions
free_rows : ℕ → Drive → List DriveRow
free_rows zero s = []
free_rows (suc n) s =
    let r = next_reading s in
    let here = step_in s r (situation_with [] s.supervision r) in
    here.0 ∷ free_rows n here.1

-- they are the rows of a drive that has none in force
rows_are : (n : ℕ) (s : Drive) → finite.values s.supervision.restrictions ≡ [] → drive_rows n s ≡ free_rows n s
unfolding drive_row after_step_from after_reading orders_after situation_of situation_with orders_in step_in row_in
    free_rows
rows_are zero s e = refl
rows_are (suc n) s e =
    ap (λ (rows : List DriveRow). drive_row s ∷ rows) (rows_are n (after_step s) e)
    ∙ ap (λ (es : List Restriction).
    let here = step_in s (next_reading s) (situation_with es s.supervision (next_reading s)) in
    here.0 ∷ free_rows n here.1) e

-- ---- drives of a train of 1 m on a level track towards an EOA and SvL at 10 m, from the seed 7

unfoldable base : TrainAndTrack
base = record {
  train = record {
    length_cm = pos 100;
    max_speed = pos 160;
    rotating_mass = Some (pos 0);
    cut_off_time = pos 0;
    cut_off_interface = false;
    emergency_time = pos 20;
    service_time = pos 0;
    service_brake = true;
    bands = record {
      upper = None;
      emergency = pos 100;
      service = pos 100;
      normal = pos 100;
      kdry = pos 1000;
      kwet = pos 1000;
      kn_up = pos 0;
      kn_down = pos 0;
      emergency_reduced = None;
    } ∷ [];
  };
  national = record {
    avadh = pos 20;
    adhesion_max = pos 70;
    guidance = false;
    service_in_target = true;
    early_release = false;
    inhibit_under_reading = false;
  };
  track = record {
    length_cm = pos 200_000;
    gradients = [];
    speeds = record { start = pos 0; speed = pos 160; delayed = true } ∷ [];
    areas = [];
    no_special = [];
  };
}

base_start : Drive
base_start = start_under base 1000 1000 7

base_rows : (n : ℕ) → drive_rows n base_start ≡ free_rows n base_start
unfolding base_start
base_rows n = rows_are n base_start (ap (λ es. map (λ e. e.1) es) none_in_force)

-- its drive is one of those of which the laws speak
base_slope : (kind : SlopeKind) (cell : ℕ) → slope_at kind base 0 (pos cell) ≡ pos 200_000_000_000
unfolding base slope_at
base_slope Safe cell = refl
base_slope Expected cell = refl
base_slope Normal cell = refl

base_accepted : (kind : SlopeKind) → IsAcceptedKind kind base
unfolding base
base_accepted kind = record { strong = strong; even = even }
  where
    strong : IsStrong kind base
    strong zero cell l = rw (base_slope kind cell) (omega (arith, ints))
    strong (suc band) cell l = absurd (omega arith)

    even : (band : ℕ) → band < 1 → IsEven kind base band
    even zero l cell cell' = rw (base_slope kind cell, base_slope kind cell') (omega (arith, ints))
    even (suc band) l cell cell' = absurd (omega arith)

base_drivable : IsDrivable base 1000 1000
unfolding base
base_drivable = record {
  is_open = record { bands = record { few = omega arith; in_order = refl }; usable = base_accepted };
  build_up = omega arith;
}

-- by -19, 39 and 30 cm/s²: the train stands, goes 48.75 mm, and goes 135 mm
three_steps : drive_output base 1000 1000 7 3
    ≡ codes "cycles 3\nemergency 0\nstops 0\nfront 184\nleast 9816\n"
unfolding base base_start situation_with orders_in step_in free_rows row_in mrsp targets_of state_in commands_in
    is_covered_in commands_after emergency_after triggers_of limits_of release_start reaction_times slopes_of slope_at
    stepped place_at corner arc arc_back back is_within_svl brake_delay reading_by after_ds after_driving
    after_braking speed_loss stopping_distance greatest_slope digits
three_steps = ap (λ rows. drive_text 1000 rows) (base_rows 3) ∙ refl

-- the emergency brake is commanded in step 12; the last reading within the SvL before was that of step 11, at 55 ds, so
-- the brake works from 75 ds on, and the train stops in step 16, at 4459.0625 mm
twenty_steps : drive_output base 1000 1000 7 20
    ≡ codes "cycles 20\nemergency 5\nstops 1\nfront 4881\nleast 5119\n"
unfolding base base_start situation_with orders_in step_in free_rows row_in mrsp targets_of state_in commands_in
    is_covered_in commands_after emergency_after triggers_of limits_of release_start reaction_times slopes_of slope_at
    stepped place_at corner arc arc_back back is_within_svl brake_delay reading_by after_ds after_driving
    after_braking speed_loss stopping_distance greatest_slope digits
twenty_steps = ap (λ rows. drive_text 1000 rows) (base_rows 20) ∙ refl
