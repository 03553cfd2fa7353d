-- One more at the end.
use Rattle.std.proofs.Common.{◌∙◌, ap, pos, take, get_or, refl}
use Rattle.std.proofs.lemmas.List.{take_more, take_all}
use Rattle.sdm_rules.specs.TakeOver.{first_beyond}
use Rattle.sdm_speed.proofs.BeyondLaws.{beyond_push}
use Rattle.sdm_speed.proofs.HeldLaws.{none}
use Rattle.sdm_speed.proofs.profiles.first_beyond.Goals as goal

pub loop-i-preserved : goal.loop-i-preserved
loop-i-preserved c =
    rw (take_more c.args.held.now c.loop-i.i none c.loop-i-test.true, beyond_push (pos c.args.length_cm) (take c.loop-i.i c.args.held.now) (get_or c.args.held.now c.loop-i.i none), c.with_beyond-found.ensures, c.loop-i.invariant) refl

pub returns : goal.returns
returns c = c.loop-i.invariant ∙ ap (first_beyond (pos c.args.length_cm)) (take_all c.loop-i.i c.args.held.now c.loop-i-test.false)
