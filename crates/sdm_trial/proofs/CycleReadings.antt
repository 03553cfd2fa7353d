-- Times rise by 5 ds from cycle to cycle, so no reading comes before the last one.
use Rattle.std.proofs.Common.{◌≡◌, ℕ, suc, None, ◌*◌, arith, refl}
use Rattle.std.proofs.lemmas.Bool.{le-ltb}
use Rattle.sdm_rules.specs.declared.authorities.Authority.{Authority}
use Rattle.sdm_rules.specs.Data.{TrainAndTrack}
use Rattle.sdm_rules.specs.Records.{time_fault}
use Rattle.sdm_rules.specs.Supervision.{Supervision, after_reading, opening}
use Rattle.sdm_formats.specs.Trial.{reading_in_cycle}

-- after the reading of a cycle that of the next is not too early
pub next_in_time : (s : Supervision) (seed i : ℕ) →
    time_fault (after_reading s (reading_in_cycle seed i)).last_time (reading_in_cycle seed (suc i)).time ≡ None
unfolding after_reading
next_in_time s seed i = rw (le-ltb (5 * suc i) (5 * i) (omega arith)) refl

-- at the opening no reading is too early
pub first_in_time : (d : TrainAndTrack) (a : Authority) (seed i : ℕ) →
    time_fault (opening d a).last_time (reading_in_cycle seed i).time ≡ None
first_in_time d a seed i = refl
