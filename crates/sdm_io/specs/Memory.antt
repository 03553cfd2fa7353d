-- What contracts see of the source and the sink over memory, which fail by a plan (own).
use Rattle.std.specs.Prelude.{◌≡◌, ℕ, ◌+◌, ◌-◌, ◌<◌, min, Bool, if◌then◌else◌, List, length, Contains}
use Rattle.sdm_io.specs.Causes.{next_count}

-- how much is moved at once, which calls fail, and what was counted so far
pub record CallPlan : Type 0 where
  pub step : ℕ  -- the most bytes that a call moves
  pub failing : List ℕ  -- the numbers, from 1, of the calls that fail
  pub calls : ℕ  -- calls made so far
  pub faults : ℕ  -- calls that failed so far

-- no call was made yet, and none failed
abbrev pub fresh_plan : ℕ → List ℕ → CallPlan
fresh_plan step failing = record { step = step; failing = failing; calls = 0; faults = 0 }

-- the next call is one of those that fail
abbrev pub FailsNext : CallPlan → Type 0
FailsNext plan = Contains plan.failing (plan.calls + 1)

-- the plan after a call, which is counted, and also as a fault where it failed
abbrev pub after_call : CallPlan → Bool → CallPlan
after_call plan failed =
    record plan { calls = next_count plan.calls; faults = if failed then next_count plan.faults else plan.faults }

-- a source over memory
pub record MemoryInput : Type 0 where
  pub left : List ℕ  -- bytes that are left
  pub plan : CallPlan

-- how many bytes a read that does not fail gives: as many as the step, the buffer and what is left allow
abbrev pub readable : MemoryInput → ℕ → ℕ
readable input buffer = min input.plan.step (min buffer (length input.left))

-- a sink over memory
pub record MemoryOutput : Type 0 where
  pub taken : List ℕ  -- bytes taken so far
  pub room : ℕ  -- the most bytes that it takes in all
  pub plan : CallPlan

-- a piece that is not empty meets no free room
abbrev pub MeetsNoRoom : MemoryOutput → List ℕ → Type 0
MeetsNoRoom output piece = (0 < length piece) × (length output.taken ≡ output.room)

-- how many bytes a write that does not fail takes: as many as the step, the piece and the free room allow
abbrev pub writable : MemoryOutput → List ℕ → ℕ
writable output piece = min output.plan.step (min (length piece) (output.room - length output.taken))
