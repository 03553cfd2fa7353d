-- The rows of a drive are those of the journey of its readings: times rise from reading to reading, so that none is
-- refused, and the state after a step is that after its reading.
use Rattle.std.proofs.Common.{◌≡◌, ℕ, suc, zero, Bool, List, ◌∷◌, ◌*◌, ◌≤ℤ◌, None, map, neg_ℤ, arith, refl, subst, sym}
use Rattle.std.specs.Prelude.{All}
use Rattle.std.proofs.lemmas.Int.{ints}
use Rattle.std.proofs.lemmas.List.Elements.{All-nil, All-cons}
use Rattle.std.proofs.Math.Nat.{mod-lt}
use Rattle.sdm_num.specs.Units.{millimetre}
use Rattle.sdm_num.specs.Readings.{OdometerReading}
use Rattle.sdm_num.proofs.Floors.{floor_high}
use Rattle.sdm_rules.specs.declared.authorities.Authority.{Authority}
use Rattle.sdm_rules.specs.declared.authorities.Authority.TheVariants.{Stop}
use Rattle.sdm_rules.specs.declared.data.SlopeKind.TheVariants.{Safe}
use Rattle.sdm_rules.specs.Data.{TrainAndTrack}
use Rattle.sdm_rules.specs.Records.{Journey, journey_from, rows_of, step, time_fault}
use Rattle.sdm_rules.specs.Supervision.{Supervision, after_reading, opening, row_of}
use Rattle.sdm_formats.specs.Trial.{reading_record}
use Rattle.sdm_laws.proofs.Rows.Headline.{open_usable}
use Rattle.sdm_row_laws.proofs.OpenTurns.{promised_turns}
use Rattle.sdm_drive.specs.Drive.{Drive, TrueTrain, after_step, after_step_from, drive_row, drive_rows, next_reading}
use Rattle.sdm_drive.specs.Drive.{drive_start, reading_by, step_time}
use Rattle.sdm_drive.specs.DriveJourneys.{AreStepsPromised, IsReadTrue, LawOfDriveSteps, drives_before}
use Rattle.sdm_drive.specs.DriveLaws.{start_under}
use Rattle.sdm_drive.specs.Faults.{MayBeDriven}
use Rattle.sdm_drive.specs.Held.{IsHeldDrive, IsRanged}
use Rattle.sdm_drive.proofs.Ranges.{not_back, step_ranged}
use Rattle.sdm_drive.proofs.Readings.{is_read}
use Rattle.sdm_drive.proofs.Steps.{start_held, start_ranged, step_held}

-- ---- the journey

-- the journey of readings from a state on
abbrev readings_journey : ℕ → Supervision → List OdometerReading → Journey
readings_journey k s readings = journey_from (λ i r. reading_record r) k s readings

-- a reading that is not too early has its row, and the rest follows from the state after it
reading_taken : (k : ℕ) (s : Supervision) (r : OdometerReading) (rest : List OdometerReading) →
    time_fault s.last_time r.time ≡ None →
    rows_of (readings_journey k s (r ∷ rest)).turns
    ≡ row_of s r ∷ rows_of (readings_journey (suc k) (after_reading s r) rest).turns
unfolding step
reading_taken k s r rest in_time = rw in_time refl

-- the reading of the next step is not too early
in_time : (n : ℕ) (s : Drive) → IsRanged n s → time_fault s.supervision.last_time (next_reading s).time ≡ None
unfolding reading_by
in_time n s k =
    let steps = k.steps in
    not_back s.supervision.last_time (step_time * suc s.steps)
    (λ t is. (let le = k.last t is in omega arith))

-- the state after a step is that after its reading, and its row that of the reading
state_after : (s : Drive) → (after_step s).supervision ≡ after_reading s.supervision (next_reading s)
unfolding after_step_from
state_after s = refl

row_of_step : (s : Drive) → (drive_row s).row ≡ row_of s.supervision (next_reading s)
unfolding drive_row
row_of_step s = refl

-- the rows of the steps
rows_are : (eoa svl n m k : ℕ) (s : Drive) → IsHeldDrive eoa svl s → IsRanged m s →
    map (λ r. r.row) (drive_rows n s)
    ≡ rows_of (readings_journey k s.supervision (map next_reading (drives_before n s))).turns
unfolding after_reading after_step_from step
rows_are eoa svl zero m k s h ranged = refl
rows_are eoa svl (suc n) m k s h ranged =
    let next = after_step s in
    let rest = map next_reading (drives_before n next) in
    let usable = open_usable s.supervision h.is_open Safe in
    let later =
    rows_are eoa svl n (suc m) (suc k) next (step_held eoa svl s h) (step_ranged m s usable ranged) in
    let taken = reading_taken k s.supervision (next_reading s) rest (in_time m s ranged) in
    rw (row_of_step s, later, state_after s, taken) refl

-- ---- the readings

-- the min safe front end is read at most at the true front end: it is 10 m before the max safe one, which is read at
-- most 5 m and a millimetre past the true one
read_behind : (inhibited : Bool) (time x : ℕ) (t : TrueTrain) → (reading_by inhibited time x t).min ≤ℤ t.place
unfolding reading_by
read_behind inhibited time x t =
    let low = floor_high millimetre (neg_ℤ t.place) (omega arith) in
    let less = mod-lt x {m = 5_001} (omega arith) in
    omega (arith, ints, low, less)

read_true : (s : Drive) → IsReadTrue s
read_true s =
    let d = s.supervision.train_and_track in
    let inhibited = d.national.inhibit_under_reading in
    let time = step_time * suc s.steps in
    let read = is_read d time _ s.train in
    record { rear = read_behind inhibited time _ s.train; front = read.front; speed = read.speed }

readings_true : (n : ℕ) (s : Drive) → All IsReadTrue (drives_before n s)
readings_true zero s = All-nil IsReadTrue
readings_true (suc n) s =
    All-cons IsReadTrue s (drives_before n (after_step s)) (read_true s) (readings_true n (after_step s))

-- ---- what the steps promise

pub steps_promised : LawOfDriveSteps
steps_promised d eoa svl seed n may =
    let start = start_under d eoa svl seed in
    record {
      rows = rows_are eoa svl n 0 1 start (start_held d eoa svl seed may) (start_ranged d eoa svl seed);
      turns = promised_turns (λ i r. reading_record r) 1 (opening d (Stop eoa svl 0)) _ may.is_open refl;
      readings = readings_true n start;
    }

-- and those over data that may be driven
pub may_promise : (d : TrainAndTrack) (a : Authority) (seed n : ℕ) → MayBeDriven d a →
    AreStepsPromised n (drive_start d a seed)
may_promise d a seed n may =
    subst (λ (x : Authority). AreStepsPromised n (drive_start d x seed)) (sym may.stop)
    (steps_promised d may.eoa may.svl seed n may.drivable)
