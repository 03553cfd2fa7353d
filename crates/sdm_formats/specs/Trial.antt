-- A journey made from one number: fixed data, readings made from the number, and a summary of the rows (own).
use Rattle.std.specs.Prelude.{ℕ, zero, suc, ℤ, pos, negsuc, true, false, Some, None, Result, Ok, List, [], ◌∷◌, ◌++◌}
use Rattle.std.specs.Prelude.{◌+◌, ◌*◌, ◌%◌, ◌+ℤ◌, ◌-ℤ◌, codes, decimal, count_by, fold, length, unwrap_or}
use Rattle.std.specs.Prelude.{unsigned_abs}
use Rattle.std.specs.Int.{int_rem_euclid}
use Rattle.sdm_num.specs.Readings.{OdometerReading, reading_of}
use Rattle.sdm_rules.specs.declared.authorities.Authority.{Authority}
use Rattle.sdm_rules.specs.declared.authorities.Authority.TheVariants.{Stop}
use Rattle.sdm_rules.specs.declared.data.NationalFields.{NationalFields}
use Rattle.sdm_rules.specs.declared.faults.EventFault.{EventFault}
use Rattle.sdm_rules.specs.declared.records.Event.{Event}
use Rattle.sdm_rules.specs.declared.records.Event.TheVariants as record_kinds
use Rattle.sdm_rules.specs.declared.rows.Row.{Row}
use Rattle.sdm_rules.specs.Data.{TrainAndTrack, TrackData, TrainData}
use Rattle.sdm_rules.specs.Records.{Journey, event_at, journey_from, rows_of}
use Rattle.sdm_rules.specs.Supervision.{opening}
use Rattle.sdm_formats.specs.Flat.{Output}
use Rattle.sdm_formats.specs.Input.{end_of_journey}

-- the next number of the generator
abbrev pub next_number : ℕ → ℕ
next_number x = (25_173 * x + 13_849) % 65_536

-- the number of a cycle, counted from 1; that of cycle 0 is the seed
abbrev pub number_at : ℕ → ℕ → ℕ
number_at seed zero = seed
number_at seed (suc i) = next_number (number_at seed i)

-- the reading of cycle `i` by its number
abbrev pub reading_by : ℕ → ℕ → OdometerReading
reading_by i x =
    let est = pos (3_000_000 + 20 * x) in
    reading_of (5 * i) est (est -ℤ pos 5_000) (est +ℤ pos 5_000) (x % 44_001) (pos (x % 101) -ℤ pos 50) 500

-- the reading of a cycle of the journey from a seed
abbrev pub reading_in_cycle : ℕ → ℕ → OdometerReading
reading_in_cycle seed i = reading_by i (number_at seed i)

-- the readings of `n` cycles from cycle `i` on
abbrev pub readings_from : ℕ → ℕ → ℕ → List OdometerReading
readings_from seed i zero = []
readings_from seed i (suc n) = reading_in_cycle seed i ∷ readings_from seed (suc i) n

-- ---- the data

-- the train: 200 m, 160 km/h, no known rotating mass, and two speed bands, below and above 100 km/h
abbrev pub trial_train : TrainData
trial_train = record {
  length_cm = pos 20_000;
  max_speed = pos 160;
  rotating_mass = None;
  cut_off_time = pos 20;
  cut_off_interface = true;
  emergency_time = pos 30;
  service_time = pos 40;
  service_brake = true;
  bands =
      record {
        upper = Some (pos 100);
        emergency = pos 120;
        service = pos 90;
        normal = pos 60;
        kdry = pos 850;
        kwet =
            pos 950;
        kn_up = pos 0;
        kn_down = pos 0;
        emergency_reduced = None;
      }
      ∷ record {
        upper = None;
        emergency = pos 100;
        service = pos 80;
        normal = pos 50;
        kdry = pos 850;
        kwet = pos 950;
        kn_up =
            pos 0;
        kn_down = pos 0;
        emergency_reduced = None;
      }
      ∷ [];
}

-- the national values: the wet factor counts in full, no guidance, the service brake in use, no early release
abbrev pub trial_national : NationalFields
trial_national = record {
  avadh = pos 0;
  adhesion_max = pos 70;
  guidance = false;
  service_in_target = true;
  early_release =
      false;
  inhibit_under_reading = false;
}

-- the track: 6 km at 160 km/h, falling by 5 per mille from 2 km to 4 km, else level
abbrev pub trial_track : TrackData
trial_track = record {
  length_cm = pos 600_000;
  gradients = record { start = pos 0; grad = pos 0 } ∷ record { start = pos 200_000; grad = negsuc 49 }
      ∷ record { start = pos 400_000; grad = pos 0 } ∷ [];
  speeds = record { start = pos 0; speed = pos 160; delayed = true } ∷ [];
  areas = [];
  no_special = [];
}

-- the data of every trial
abbrev pub trial_train_and_track : TrainAndTrack
trial_train_and_track = record { train = trial_train; national = trial_national; track = trial_track }

-- the authority of every trial: an EOA at 5 km, the SvL 50 m beyond it, no release speed
abbrev pub trial_authority : Authority
trial_authority = Stop 500_000 505_000 0

-- ---- the journey

-- a reading as a record: it is always in form
abbrev pub reading_record : OdometerReading → Result Event EventFault
reading_record r = Ok (record_kinds.Read r)

-- the journey of so many cycles from a seed
abbrev pub trial_journey : ℕ → ℕ → Journey
trial_journey seed cycles = journey_from (event_at reading_record) 1 (opening trial_train_and_track trial_authority)
    (readings_from seed 1 cycles)

-- ---- the summary

-- the sum of the printed EBI places in mm, none counting as 0
abbrev pub ebi_sum : List Row → ℤ
ebi_sum rows = fold (λ total r. total +ℤ unwrap_or r.ebi (pos 0)) (pos 0) rows

-- a line of the summary: a word and a number
abbrev pub count_text : List ℕ → ℕ → List ℕ
count_text word n = word ++ codes " " ++ decimal n ++ codes "\n"

-- the summary: how many rows, how many of them covered, with the emergency and the service brake commanded, and the
-- sum of the EBI places modulo 10^9
abbrev pub summary_text : List Row → List ℕ
summary_text rows =
    count_text (codes "rows") (length rows)
    ++ count_text (codes "covered") (count_by (λ r. r.covered) rows)
    ++ count_text (codes "emergency") (count_by (λ r. r.held.eb) rows)
    ++ count_text (codes "service") (count_by (λ r. r.held.sb) rows)
    ++ count_text (codes "ebi") (unsigned_abs (int_rem_euclid (ebi_sum rows) (pos 1_000_000_000)))

-- what `trial` defines: the summary of its rows, and the end of its journey
abbrev pub trial_output : ℕ → ℕ → Output
trial_output seed cycles =
    let journey = trial_journey seed cycles in
    record { text = summary_text (rows_of journey.turns); end = end_of_journey journey.refused }
