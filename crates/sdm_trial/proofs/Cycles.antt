-- The journey of a trial, cycle by cycle: no reading is refused, since its form is given, there are no more cycles
-- than records may be, and times rise.
use Rattle.std.proofs.Common.{◌≡◌, ℕ, zero, suc, List, ◌∷◌, length, None, ◌+◌, ◌≤◌, ◌∙◌, ap, arith, refl}
use Rattle.std.proofs.lemmas.Bool.{le-ltb}
use Rattle.std.specs.Prelude.{Ok}
use Rattle.sdm_num.specs.Readings.{OdometerReading}
use Rattle.sdm_rules.specs.declared.records.Event.TheVariants as record_kinds
use Rattle.sdm_rules.specs.Records.{Journey, Turn, event_at, go_on, journey_from, most_records, rows_of, step}
use Rattle.sdm_rules.specs.Records.{time_fault}
use Rattle.sdm_rules.specs.Supervision.{Supervision, after_reading, opening}
use Rattle.sdm_formats.specs.Trial.{reading_in_cycle, reading_record, readings_from, trial_authority, trial_journey}
use Rattle.sdm_formats.specs.Trial.{trial_train_and_track}
use Rattle.sdm_trial.proofs.CycleReadings.{first_in_time, next_in_time}

-- the turn of a reading
abbrev reading_turn : Supervision → OdometerReading → Turn
reading_turn s r = record { before = s; event = record_kinds.Read r; after = after_reading s r }

-- a reading that is not too early is a turn, and the rest follows from the state after it
pub reading_taken :
    (i : ℕ) (s : Supervision) (r : OdometerReading) (rest : List OdometerReading) →
    i ≤ most_records →
    time_fault s.last_time r.time ≡ None →
    journey_from (event_at reading_record) i s (r ∷ rest) ≡
    go_on i (Ok (reading_turn s r)) (λ t. journey_from (event_at reading_record) (suc i) t rest)
unfolding step
reading_taken i s r rest few in_time = rw (le-ltb most_records i few) (rw in_time refl)

-- each reading from a cycle on gives a row, and none is refused
pub all_taken :
    (seed n i : ℕ) (s : Supervision) →
    i + n ≤ 100_001 →
    time_fault s.last_time (reading_in_cycle seed i).time ≡ None →
    let journey = journey_from (event_at reading_record) i s (readings_from seed i n) in
    (journey.refused ≡ None) × (length (rows_of journey.turns) ≡ n)
all_taken seed zero i s few in_time = (refl, refl)
all_taken seed (suc n) i s few in_time =
    let r = reading_in_cycle seed i in
    let first = reading_taken i s r (readings_from seed (suc i) n) (omega arith) in_time in
    let rest = all_taken seed n (suc i) (after_reading s r) (omega arith) (next_in_time s seed i) in (
      ap (λ (j : Journey). j.refused) first ∙ rest.0,
      ap (λ (j : Journey). length (rows_of j.turns)) first ∙ ap suc rest.1,
    )

-- so does each reading of a trial
pub trial_taken : (seed cycles : ℕ) → cycles ≤ most_records →
    ((trial_journey seed cycles).refused ≡ None) × (length (rows_of (trial_journey seed cycles).turns) ≡ cycles)
trial_taken seed cycles few = all_taken seed cycles 1 (opening trial_train_and_track trial_authority) (omega arith)
    (first_in_time trial_train_and_track trial_authority seed 1)
