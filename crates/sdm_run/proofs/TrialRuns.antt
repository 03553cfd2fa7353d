-- A trial cycle by cycle: the rows of the cycles that were made, and those that the cycles left give from the state
-- that is reached, are the rows of all.
use Rattle.std.proofs.Common.{◌≡◌, ℕ, suc, pos, List, [], ◌∷◌, ◌++◌, Option, None, ◌+◌, ◌≤◌, ◌∙◌, ap}
use Rattle.std.proofs.Common.{sym, arith, refl, append_assoc}
use Rattle.std.proofs.lemmas.Int.{ints}
use Rattle.std.proofs.lemmas.List.{append-nil}
use Rattle.sdm_num.specs.Readings.{OdometerReading}
use Rattle.sdm_rules.specs.declared.faults.OpenFault.{OpenFault}
use Rattle.sdm_rules.specs.declared.faults.OpenFault.TheVariants.{TooWeak, TooVaried, BadAuthority, Memory}
use Rattle.sdm_rules.specs.declared.rows.Row.{Row}
use Rattle.sdm_report.specs.declared.outcome.Outcome.{Outcome}
use Rattle.sdm_rules.specs.Opening.{IsOpen}
use Rattle.sdm_rules.specs.Records.{Journey, event_at, journey_from, rows_of, time_fault, most_records}
use Rattle.sdm_rules.specs.Supervision.{Supervision, after_reading, opening, row_of}
use Rattle.sdm_formats.specs.Flat.{Output}
use Rattle.sdm_formats.specs.Input.{end_of_journey}
use Rattle.sdm_formats.specs.Input as ends
use Rattle.sdm_formats.specs.Trial.{reading_in_cycle, reading_record, readings_from, summary_text, trial_authority}
use Rattle.sdm_formats.specs.Trial.{trial_journey, trial_train_and_track, trial_output}
use Rattle.sdm_row_laws.proofs.OpenTurns.{promised_turns}
use Rattle.sdm_laws.proofs.Openings.OneFault.{not_both}
use Rattle.sdm_braking.specs.Braking.{IsRefusal}
use Rattle.sdm_trial.specs.Made.{MadeReadings, TakesCycle}
use Rattle.sdm_trial.specs.Summaries.{Counts, counts_of}
use Rattle.sdm_trial.proofs.Accepted.{accepted}
use Rattle.sdm_trial.proofs.CycleReadings.{first_in_time, next_in_time}
use Rattle.sdm_trial.proofs.Cycles.{reading_taken, trial_taken}
use Rattle.sdm_run.specs.Answers.{IsAnswer}
use Rattle.sdm_run.specs.Commands.{AreTrialRowsSafe}

-- no fault of the opening but want of memory fits the data of the trial
pub only_memory : (fault : OpenFault) → IsRefusal trial_train_and_track trial_authority fault → fault ≡ Memory
only_memory (TooWeak kind band cell slope) h = absurd
    (not_both trial_train_and_track trial_authority (TooWeak kind band cell slope) accepted h)
only_memory (TooVaried kind band least greatest) h =
    absurd (not_both trial_train_and_track trial_authority (TooVaried kind band least greatest) accepted h)
only_memory (BadAuthority fault) h =
    absurd (not_both trial_train_and_track trial_authority (BadAuthority fault) accepted h)
only_memory Memory h = refl

-- the rows from a state on of the cycles that are left
abbrev rows_left : MadeReadings → Supervision → List Row
rows_left m s =
    rows_of (journey_from (event_at reading_record) (suc m.made) s (readings_from m.seed (suc m.made) m.left)).turns

-- what was counted are the rows of the cycles that were made
pub record IsCycleOf (seed cycles : ℕ) (m : MadeReadings) (s : Supervision) (counts : Counts) : Type 0 where
  pub seed_is : m.seed ≡ seed
  pub few : m.made + m.left ≤ most_records
  pub counted : counts.rows ≡ m.made
  pub in_time : time_fault s.last_time (reading_in_cycle seed (suc m.made)).time ≡ None
  pub done : List Row
  pub counts_are : counts ≡ counts_of done
  pub rows : rows_of (trial_journey seed cycles).turns ≡ done ++ rows_left m s

-- at first all cycles are left
pub first_cycle : (seed cycles : ℕ) → cycles ≤ most_records → IsCycleOf seed cycles
    (record { seed = seed; made = 0; left = cycles }) (opening trial_train_and_track trial_authority) (counts_of [])
first_cycle seed cycles few = record {
  seed_is = refl;
  few = omega (arith, few);
  counted = refl;
  in_time = first_in_time trial_train_and_track trial_authority seed 1;
  done = [];
  counts_are = refl;
  rows = refl;
}

-- the rows left begin with that of the next cycle
next_row :
    (seed made left : ℕ) (s : Supervision) →
    suc made ≤ 100_000 →
    time_fault s.last_time (reading_in_cycle seed (suc made)).time ≡ None →
    rows_left (record { seed = seed; made = made; left = suc left }) s ≡
    row_of s (reading_in_cycle seed (suc made)) ∷ rows_left (record { seed = seed; made = suc made; left = left })
    (after_reading s (reading_in_cycle seed (suc made)))
next_row seed made left s few in_time =
    ap (λ (j : Journey). rows_of j.turns) (reading_taken (suc made) s (reading_in_cycle seed (suc made))
    (readings_from seed (suc (suc made)) left) few in_time)

module _ (seed cycles : ℕ) (m : MadeReadings) (s : Supervision) (counts : Counts)
    (h : IsCycleOf seed cycles m s counts) where
  -- one more cycle was made, and its row was counted
  pub cycle_made :
      (m' : MadeReadings) (s' : Supervision) (counts' : Counts) (r : OdometerReading) (row : Row) →
      r ≡ reading_in_cycle m.seed (suc m.made) →
      TakesCycle m m' →
      s' ≡ after_reading s r →
      row ≡ row_of s r →
      counts'.rows ≡ suc counts.rows →
      ((rows : List Row) → counts ≡ counts_of rows → counts' ≡ counts_of (rows ++ row ∷ [])) →
      IsCycleOf seed cycles m' s' counts'
  cycle_made m' s' counts' r row r_is taken s'_is row_is one_more counted =
      let r_of_seed : r ≡ reading_in_cycle seed (suc m.made) = r_is
      ∙ ap (λ x. reading_in_cycle x (suc m.made)) h.seed_is in
      let first = next_row seed m.made m'.left s (omega (arith, h.few, taken.left)) h.in_time in
      let left_is : rows_left m s ≡ row
      ∷ rows_left m' s' = rw (s'_is, row_is, r_of_seed, taken.seed, taken.made, h.seed_is, taken.left) first in
      let later : time_fault (after_reading s (reading_in_cycle seed (suc m.made))).last_time
      (reading_in_cycle seed (suc (suc m.made))).time ≡ None = next_in_time s seed (suc m.made) in
      record {
        seed_is = taken.seed ∙ h.seed_is;
        few = omega (arith, h.few, taken.left, taken.made);
        counted = one_more ∙ ap suc h.counted ∙ sym taken.made;
        in_time = rw (s'_is, r_of_seed, taken.made) later;
        done = h.done ++ row ∷ [];
        counts_are = counted h.done h.counts_are;
        rows = h.rows ∙ ap (λ rows. h.done ++ rows) left_is ∙ sym (append_assoc h.done (row ∷ []) (rows_left m' s'));
      }

-- where no cycle is left, all rows were counted
pub all_made : (seed cycles : ℕ) (m : MadeReadings) (s : Supervision) (counts : Counts) →
    IsCycleOf seed cycles m s counts → m.left ≡ 0 → counts ≡ counts_of (rows_of (trial_journey seed cycles).turns)
all_made seed cycles m s counts h none =
    let nothing : rows_left m s ≡ [] = rw none refl in
    h.counts_are ∙ ap counts_of (sym (h.rows ∙ ap (λ rows. h.done ++ rows) nothing ∙ append-nil h.done))

-- what answers an output with the summary and no fault answers a trial
pub trial_written : (seed cycles : ℕ) (text : List ℕ) (old new : Option (List ℕ)) (outcome : Outcome) →
    cycles ≤ most_records → text ≡ summary_text (rows_of (trial_journey seed cycles).turns) →
    ((output : Output) → output.text ≡ text → output.end ≡ ends.Done → IsAnswer output old new outcome) →
    IsAnswer (trial_output seed cycles) old new outcome
trial_written seed cycles text old new outcome few text_is h =
    h (trial_output seed cycles) (sym text_is) (ap end_of_journey (trial_taken seed cycles few).0)

-- ---- the promises of the rows

trial_open : IsOpen (opening trial_train_and_track trial_authority)
trial_open = record {
  bands = record { few = omega arith; in_order = (pos 100, refl, omega (arith, ints), refl) };
  usable = accepted.0;
}

-- what a command says of its rows holds of each turn of a trial
pub trial_rows_safe : (seed cycles : ℕ) → AreTrialRowsSafe seed cycles
trial_rows_safe seed cycles = record {
  text = refl;
  turns = promised_turns (event_at reading_record) 1 (opening trial_train_and_track trial_authority)
      (readings_from seed 1 cycles) trial_open refl;
}
