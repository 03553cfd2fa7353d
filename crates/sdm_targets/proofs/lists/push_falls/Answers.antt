-- The next fall comes first of those that are left; past the end none is.
use Rattle.std.proofs.Common.{◌≡◌, ◌≤ℤ◌, ◌<ℤ◌, pos, w32, to_z, of_z, arith, rules, length-append}
use Rattle.std.proofs.lemmas.Int.{ints, to_z-of_z}
use Rattle.sdm_speed.specs.Profiles.{mrsp_of}
use Rattle.sdm_targets.proofs.FallLaws.{all_in, one_more_in}
use Rattle.sdm_targets.proofs.RangeLaws.{one_more_on_track}
use Rattle.sdm_targets.proofs.CountLaws.{falls_few, fall_counts}
use Rattle.sdm_targets.proofs.lists.push_falls.Goals as goal

pub returns-then-from-clause-falls : goal.returns-then-from-clause-falls
returns-then-from-clause-falls c =
    let after_is : to_z w32 (of_z w32 c.args.after) ≡ c.args.after = to_z-of_z w32 c.args.after c.ranges.after in
    let next = c.in-Some.ensures.value in
    let past : pos c.args.end
    <ℤ c.in-Some.fall.cell = omega (arith, ints, c.from.ensures, c.from-in-Some.ensures, c.if-from.true) in
    all_in (mrsp_of c.args.profile.now) _ (pos c.args.end) _ _ (rw after_is at c.loop-fall.invariant.falls)
    (λ d a b. next.first d a (omega (arith, ints)))

pub returns-then-from-clause-few : goal.returns-then-from-clause-few
returns-then-from-clause-few c =
    falls_few c.args.profile.now _ _ c.in-Some.ensures.profile_in_range c.loop-fall.invariant.count

pub push-requires : goal.push-requires
push-requires c =
    omega (arith, falls_few c.args.profile.now _ _ c.in-Some.ensures.profile_in_range c.loop-fall.invariant.count)

pub loop-fall-preserved : goal.loop-fall-preserved
loop-fall-preserved c =
    let fall = c.in-Some.fall in
    let next = c.in-Some.ensures.value in
    let cell_is : to_z w32 (of_z w32 fall.cell) ≡ fall.cell = to_z-of_z w32 fall.cell (search rules) in
    let on : fall.cell ≤ℤ pos c.args.end = omega (arith, ints, c.from.ensures, c.from-in-Some.ensures, c.if-from.false)
    in
    let place_is = rw cell_is at c.of_cm.ensures in
    rw cell_is (record {
      falls = rw (c.push.ensures, place_is)
          (one_more_in (mrsp_of c.args.profile.now) _ (pos c.args.end) fall _ _ c.loop-fall.invariant.falls next on);
      count = rw (c.push.ensures, length-append)
          (let more = fall_counts c.args.profile.now _ fall next in omega (arith, more, c.loop-fall.invariant.count));
      each = rw (c.push.ensures, place_is)
          (one_more_on_track _ fall c.loop-fall.invariant.each c.in-Some.ensures.in_range);
    })

pub returns-clause-falls : goal.returns-clause-falls
returns-clause-falls c =
    let after_is : to_z w32 (of_z w32 c.args.after) ≡ c.args.after = to_z-of_z w32 c.args.after c.ranges.after in
    all_in (mrsp_of c.args.profile.now) _ (pos c.args.end) _ _ (rw after_is at c.loop-fall.invariant.falls)
    (λ d a b. c.in_default.ensures.value d a)

pub returns-clause-few : goal.returns-clause-few
returns-clause-few c =
    falls_few c.args.profile.now _ _ c.in_default.ensures.profile_in_range c.loop-fall.invariant.count
