-- What a supervisor that was opened over new data takes over from a running one, and when it doesn't (own).
use Rattle.std.specs.Prelude.{ℕ, ℤ, pos, List, [], ◌∷◌, Option, Some, None, Result, Ok, Err, int_lt, min, option_map}
use Rattle.std.specs.Prelude.{if◌then◌else◌}
use Rattle.std.specs.Ordering.{nat_cmp}
use Rattle.std.specs.FinMap as finite
use Rattle.sdm_rules.specs.declared.authorities.Authority.{Authority}
use Rattle.sdm_rules.specs.declared.restrictions.Restriction.{Restriction}
use Rattle.sdm_rules.specs.Data.{TrainAndTrack}
use Rattle.sdm_rules.specs.Supervision.{Supervision, opening}
use Rattle.sdm_rules.specs.declared.faults.TakeOverFault.{TakeOverFault}
use Rattle.sdm_rules.specs.declared.faults.TakeOverFault.TheVariants.{BeyondTrack}

-- the least of a number and of another, if there is one
abbrev pub least_with : ℕ → Option ℕ → ℕ
least_with x None = x
least_with x (Some y) = min x y

-- the identity of a restriction beside that of others, where it ends past the end of a track of a length in cm
abbrev pub with_beyond : ℤ → Restriction → Option ℕ → Option ℕ
with_beyond length_cm r rest = if int_lt length_cm (pos r.end) then Some (least_with r.id rest) else rest

-- the least identity of the restrictions that end past the end of a track of a length in cm
abbrev pub first_beyond : ℤ → List Restriction → Option ℕ
first_beyond length_cm [] = None
first_beyond length_cm (r ∷ rs) = with_beyond length_cm r (first_beyond length_cm rs)

-- the fault of a change to a track of a length in cm: the first restriction in force, by identity, that ends past its
-- end
abbrev pub take_over_fault : ℤ → finite.FinMap nat_cmp Restriction → Option TakeOverFault
take_over_fault length_cm restrictions = option_map BeyondTrack (first_beyond length_cm (finite.values restrictions))

-- the state after a change of data: the data and the authority of the next supervisor; the restrictions in force, the
-- time of the last reading, and the commands with the status of the one before
abbrev pub taken_over : Supervision → Supervision → Supervision
taken_over next before = record next {
  restrictions = before.restrictions;
  last_time = before.last_time;
  commands = before.commands;
}

-- the supervision state after a change to these data and this authority
abbrev pub renewed : Supervision → TrainAndTrack → Authority → Supervision
renewed before d a = taken_over (opening d a) before

-- the state, unless there is a fault
abbrev pub unless_refused : Option TakeOverFault → Supervision → Result Supervision TakeOverFault
unless_refused None s = Ok s
unless_refused (Some fault) s = Err fault

-- a change of data, or why it is refused
unfoldable pub change : Supervision → Supervision → Result Supervision TakeOverFault
change next before =
    unless_refused (take_over_fault next.train_and_track.track.length_cm before.restrictions) (taken_over next before)
