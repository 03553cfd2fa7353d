-- Lists of calls, worked by hand: what each answers, and what stands in the block of the row.
use Rattle.std.proofs.Common.{◌≡◌, refl, ℕ, pos, List, [], ◌∷◌}
use Rattle.std.specs.Prelude.{Some, None, Result, Ok, Err, map}
use Rattle.sdm_rules.specs.declared.authorities.Authority.TheVariants.{Limit}
use Rattle.sdm_rules.specs.declared.records.Event.TheVariants as record_kinds
use Rattle.sdm_rules.specs.Records.{step}
use Rattle.sdm_rules.specs.Supervision.{Supervision, after_reading, opening, row_of}
use Rattle.sdm_formats.specs.Trial.{trial_train_and_track}
use Rattle.sdm_c.specs.declared.call_lists.Call.{Call}
use Rattle.sdm_c.specs.declared.call_lists.Call.TheVariants as calls
use Rattle.sdm_c.specs.declared.call_lists.Written.{Written}
use Rattle.sdm_c.specs.declared.structs.ReadingC.{ReadingC}
use Rattle.sdm_c.specs.declared.structs.RowC.{RowC}
use Rattle.sdm_c.specs.Codes.{row_in_c}
use Rattle.sdm_c.specs.Numbers.{reading_from}
use Rattle.sdm_c.specs.CallLists.{Answer, Asked, answers_of}
use Rattle.sdm_c.specs.CallRows.{records_taken}

-- a call that finds nothing
abbrev plain : Call → Asked
plain c = record { call = c; opening = Err 3; before = None }

-- an opening that comes to this
abbrev opens : Result Supervision ℕ → Asked
opens to = record { call = calls.Open; opening = to; before = None }

-- a standing train at 1 km at a time in ds
abbrev at : ℕ → ReadingC
at time = record {
  time_ds = time;
  est_mm = pos 1_000_000;
  min_mm = pos 999_000;
  max_mm = pos 1_001_000;
  speed_mm_s = 0;
  accel_cm_s2 = pos 0;
  under_mm_s = 0;
}

abbrev statuses : List Answer → List ℕ
statuses answers = map (λ a. a.status) answers

module _ (w : Written) where
  abbrev limited : Supervision
  limited = opening trial_train_and_track (Limit 100 50)

  -- a life of a handle: closed, refused data, opened, opened again, a limit at 0 km/h and one at 60, a reading out of
  -- range, the end, and closed again
  life : statuses (answers_of None w (plain (calls.Cycle (at 0)) ∷ opens (Err 4) ∷ opens (Ok limited)
      ∷ opens (Ok limited) ∷ plain (calls.Limit 100 0) ∷ plain (calls.Limit 100 60)
      ∷ plain (calls.Cycle (at 100_000_001)) ∷ plain calls.TakeOver ∷ plain calls.Close ∷ plain calls.Close
      ∷ plain (calls.Limit 100 60) ∷ []))
      ≡ 1 ∷ 4 ∷ 0 ∷ 2 ∷ 10 ∷ 0 ∷ 6 ∷ 1 ∷ 0 ∷ 0 ∷ 1 ∷ []
  unfolding step
  life = refl

  -- of these records one is taken
  one_record : records_taken limited (calls.Limit 100 0 ∷ calls.Limit 100 60 ∷ calls.Cycle (at 100_000_001) ∷ [])
      ≡ record_kinds.Authority (Limit 100 60) ∷ []
  unfolding step
  one_record = refl

  -- a reading at 1 s, one at 0.9 s and one at 1.1 s, of any state before the first reading: the second is refused, and
  -- leaves the row of the first
  module _ (any : Supervision) where
    abbrev begun : Supervision
    begun = record any { last_time = None }

    abbrev first : RowC
    first = row_in_c (row_of begun (reading_from (at 10)))

    abbrev last : RowC
    last = row_in_c (row_of (after_reading begun (reading_from (at 10))) (reading_from (at 11)))

    abbrev answers : List Answer
    answers = answers_of (Some begun) w
        (plain (calls.Cycle (at 10)) ∷ plain (calls.Cycle (at 9)) ∷ plain (calls.Cycle (at 11)) ∷ [])

    one_refused : statuses answers ≡ 0 ∷ 7 ∷ 0 ∷ []
    unfolding step after_reading
    one_refused = refl

    block_of_rows : map (λ a. a.written.row) answers ≡ first ∷ first ∷ last ∷ []
    unfolding step after_reading
    block_of_rows = refl
