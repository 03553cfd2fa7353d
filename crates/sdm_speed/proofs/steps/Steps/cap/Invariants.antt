-- The steps so far are capped, and the others are as they were.
use Rattle.std.proofs.Common.{◌≡◌, ◌++◌, map, take, drop, vec_len, vec_capacity}
use Rattle.sdm_speed.specs.Steps.{capped_step}
use Rattle.sdm_speed.proofs.steps.Steps.cap.Given as goal

abbrev pub invariant-loop-i : goal.invariant-loop-i
invariant-loop-i l = record {
  before : l.self.before ≡ l.initial.self.before;
  list : l.self.list.items ≡ map (capped_step l.fn.zone) (take l.i l.fn.self.list.items)
      ++ drop l.i l.fn.self.list.items;
  len : vec_len l.self.list ≡ vec_len l.fn.self.list;
  room : vec_capacity l.self.list ≡ vec_capacity l.fn.self.list;
}
