-- One entry more.
use Rattle.std.proofs.Common.{◌<◌, length, refl, arith}
use Rattle.std.proofs.lemmas.List.{take_more}
use Rattle.std.proofs.lemmas.Option.{get_or_from_slice_get}
use Rattle.sdm_speed.proofs.profiles.speeds_of.Goals as goal

pub loop-i-preserved : goal.loop-i-preserved
loop-i-preserved c =
    let entry = c.speed.result.now in
    let known : c.loop-i.i < length c.args.track.now.speeds = omega (arith, c.speed_count-i-end.ensures.value) in
    rw (
      c.in_ok-push.ensures.items,
      c.loop-i.invariant,
      take_more c.args.track.now.speeds c.loop-i.i entry known,
      get_or_from_slice_get c.args.track.now.speeds c.loop-i.i entry entry c.speed.ensures.value,
    ) refl
