-- Several ds one after the other, with the stops in them: what comes from here on, with what came before, is the whole.
use Rattle.std.proofs.Common.{◌≡◌, ℕ, pos, suc, ◌+◌, ◌-◌, ◌*◌, ◌<◌, ◌≤◌, ◌≤ℤ◌, subst, ap, arith, ◌∙◌}
use Rattle.std.proofs.lemmas.Int.{ints}
use Rattle.sdm_rules.specs.Slopes.{Slopes, IsUsable}
use Rattle.sdm_drive.specs.declared.orders.Orders.{Orders}
use Rattle.sdm_drive.specs.Drive.{TrueTrain, after_ds, after_several_ds, greatest_driven, step_time, stop_between}
use Rattle.sdm_drive.specs.Drive.{stops_in}
use Rattle.sdm_drive.proofs.Ranges.{ds_near}

-- after `k` of the ds of a step that begins with the train `start`
pub record IsMovedSoFar (on : Slopes) (o : Orders) (time : ℕ) (start : TrueTrain) (k : ℕ) (t : TrueTrain) (stops : ℕ) :
    Type 0 where
  pub train :
      after_several_ds on o (time + k) (step_time - k) t ≡ after_several_ds on o time step_time start
  pub stopped : stops + stops_in on o (time + k) (step_time - k) t ≡ stops_in on o time step_time start
  pub few : stops ≤ k
  pub near : t.place ≤ℤ pos (90_000_000_000_000_000 + 10_000_000_000_000 * k)

-- at the beginning of the step
pub moved_none : (on : Slopes) (o : Orders) (time : ℕ) (start : TrueTrain) →
    start.place ≤ℤ pos 90_000_000_000_000_000 → IsMovedSoFar on o time start 0 start 0
moved_none on o time start near =
    let e : time + 0 ≡ time = omega arith in
    record {
      train = ap (λ (n : ℕ). after_several_ds on o n step_time start) e;
      stopped = ap (λ (n : ℕ). 0 + stops_in on o n step_time start) e ∙ omega arith;
      few = omega arith;
      near = omega (arith, ints);
    }

-- after one ds more
pub moved_more : (on : Slopes) (o : Orders) (time : ℕ) (start : TrueTrain) (k : ℕ) (t t' : TrueTrain)
    (stops stops' : ℕ) → IsUsable on → k < step_time → t.speed ≤ greatest_driven → t' ≡ after_ds on o (time + k) t →
    stops' ≡ stops + stop_between t.speed t'.speed → stops' ≤ stops + 1 → IsMovedSoFar on o time start k t stops →
    IsMovedSoFar on o time start (k + 1) t' stops'
moved_more on o time start k t t' stops stops' usable lt slow is stops_is one h =
    let next = after_ds on o (time + k) t in
    let left : step_time - k ≡ suc (step_time - (k + 1)) = omega arith in
    let at : suc (time + k) ≡ time + (k + 1) = omega arith in
    let train = subst (λ (n : ℕ).
    after_several_ds on o (time + k) n t ≡ after_several_ds on o time step_time start) left h.train in
    let stopped = subst (λ (n : ℕ).
    stops + stops_in on o (time + k) n t ≡ stops_in on o time step_time start) left h.stopped in
    let near = ds_near on usable o (time + k) t slow in
    let far = h.near in
    let few = h.few in
    record {
      train = rw (is, ← at) train;
      stopped = rw (stops_is, is, ← at) (omega (arith, stopped));
      few = omega arith;
      near = rw is (omega (arith, ints));
    }
