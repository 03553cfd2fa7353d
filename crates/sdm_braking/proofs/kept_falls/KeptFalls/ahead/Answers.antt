-- Those at or before the cell are left out, and of the others those past the end.
use Rattle.std.proofs.Common.{◌≤ℤ◌, pos, drop, take, sym, ◌∙◌, arith, rules}
use Rattle.std.proofs.lemmas.Int.{ints}
use Rattle.std.proofs.lemmas.List.{length-drop, length-map, length-take, take_rest}
use Rattle.std.proofs.lemmas.List.Elements.{All-drop, All-take}
use Rattle.sdm_rules.specs.declared.data.SlopeKind.TheVariants.{Normal, Safe}
use Rattle.sdm_rules.specs.Decelerations.{slopes_of}
use Rattle.sdm_speed.specs.Falls.{AreAtFalls}
use Rattle.sdm_speed.proofs.FallLists.{rest_at}
use Rattle.sdm_targets.proofs.FallLists.{falls_up_to}
use Rattle.sdm_braking.specs.KeptFalls.{IsKeptFall, first_cell}
use Rattle.sdm_braking.proofs.FootLaws.{part_hidden, part_of_row, part_order}
use Rattle.sdm_braking.proofs.PlaceLaws.{falls_placed, kept_part, parted_at, placed, targets_at}
use Rattle.sdm_braking.proofs.kept_falls.KeptFalls.ahead.Goals as goal

pub returns-clause-falls : goal.returns-clause-falls
returns-clause-falls c p h =
    let ks = c.self.inside.list.items in
    let kept : AreAtFalls placed p first_cell ks = falls_placed _ p first_cell ks (rw (← c.self.view_is) at h) in
    let low : first_cell ≤ℤ c.args.after = omega (arith, ints, c.ranges.after.sfits) in
    let begun = parted_at p first_cell c.args.after ks c.parted-begun.result kept
    (rw c.deref.ensures.value at c.parted-begun.ensures.partitioned) (λ a r f called. search rules) in
    let rest = rest_at placed p first_cell c.args.after ks c.parted-begun.result low begun.reached begun.past
    kept in
    let ended = parted_at p c.args.after (pos c.args.end) _ c.parted-ended.result rest
    (rw (c.deref-2.ensures.value, take_rest) at c.parted-ended.ensures.partitioned)
    (λ a r f called. search rules) in
    rw (c.deref-2.ensures.value, take_rest)
    (falls_up_to placed p c.args.after (pos c.args.end)
    (drop c.parted-begun.result ks) c.parted-ended.result ended.reached ended.past rest
    ∙ sym (targets_at _ (take c.parted-ended.result (drop c.parted-begun.result ks))))

pub returns-clause-each : goal.returns-clause-each
returns-clause-each c d each =
    let i = c.parted-begun.result in
    let j = c.parted-ended.result in
    rw (c.deref-3.ensures.value, c.deref-2.ensures.value, take_rest, kept_part)
    (All-take (IsKeptFall d) j _ (All-drop (IsKeptFall d) i _ (rw (← c.self.view_is) at each)))

pub returns-clause-few : goal.returns-clause-few
returns-clause-few c =
    let ks = c.self.inside.list.items in
    let i = c.parted-begun.result in
    let j = c.parted-ended.result in
    rw (
      c.deref-3.ensures.value,
      c.deref-2.ensures.value,
      take_rest,
      ← c.self.view_is,
      length-map,
      length-map,
      length-take,
      length-drop,
    ) (omega arith)

pub returns-clause-order : goal.returns-clause-order
returns-clause-order c h =
    rw (c.deref-3.ensures.value, c.deref-2.ensures.value, take_rest, kept_part, part_of_row)
    (part_order _ c.parted-begun.result c.parted-ended.result (rw (← c.self.view_is) at h))

pub returns-clause-hidden : goal.returns-clause-hidden
returns-clause-hidden c d h =
    let i = c.parted-begun.result in
    let j = c.parted-ended.result in
    let whole = rw (← c.self.view_is) at h in
    rw (
      c.deref-5.ensures.value,
      c.deref-4.ensures.value,
      c.deref-3.ensures.value,
      c.deref-2.ensures.value,
      take_rest,
      take_rest,
      take_rest,
      kept_part,
    ) (record {
      brakes = rw part_of_row (part_hidden _ i j (slopes_of Safe d) c.self.inside.brake_steps.items whole.brakes);
      guides = λ on. rw part_of_row
          (part_hidden _ i j (slopes_of Normal d) c.self.inside.guide_steps.items (whole.guides on));
    })
