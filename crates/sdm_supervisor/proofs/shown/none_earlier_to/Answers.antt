-- Up to what hides its EBD or its guidance curve no fall is before this one by either.
use Rattle.std.proofs.Common.{map, sym, ◌∙◌, arith}
use Rattle.std.proofs.lemmas.Bool.{false≢true}
use Rattle.std.proofs.lemmas.List.{length-map}
use Rattle.sdm_braking.specs.KeptFalls.{target_of}
use Rattle.sdm_braking.proofs.FootLaws.{guides_in_order}
use Rattle.sdm_supervisor.proofs.NoneEarlier.{none_braked, none_guided}
use Rattle.sdm_supervisor.proofs.shown.none_earlier_to.Goals as goal

pub none_before_to-braked-requires-clause-order : goal.none_before_to-braked-requires-clause-order
none_before_to-braked-requires-clause-order c = rw c.brakes.ensures.falls c.requires.hidden.order

pub none_before_to-braked-requires-clause-hidden : goal.none_before_to-braked-requires-clause-hidden
none_before_to-braked-requires-clause-hidden c =
    rw (c.brakes.ensures.falls, c.brakes.ensures.slopes) c.requires.hidden.hidden.brakes

pub none_before_to-guided-requires-clause-order : goal.none_before_to-guided-requires-clause-order
none_before_to-guided-requires-clause-order c =
    rw c.guides.ensures.falls (guides_in_order (map target_of c.args.falls.now) c.requires.hidden.order)

pub none_before_to-guided-requires-clause-hidden : goal.none_before_to-guided-requires-clause-hidden
none_before_to-guided-requires-clause-hidden c =
    rw (c.guides.ensures.falls, c.guides.ensures.slopes)
    (c.requires.hidden.hidden.guides (sym c.has_guidance.ensures ∙ c.if-not-has_guidance.false))

pub returns-then-not-has_guidance-clause-after : goal.returns-then-not-has_guidance-clause-after
returns-then-not-has_guidance-clause-after c =
    let falls = map target_of c.args.falls.now in
    let long = length-map c.args.falls.now target_of in
    none_braked falls c.args.i (omega (arith, long, c.requires.known)) c.args.braking.now c.none_before_to-braked.result
    (rw (c.brakes.ensures.falls, c.brakes.ensures.slopes) at c.none_before_to-braked.ensures.after)
    (rw c.brakes.ensures.falls at c.none_before_to-braked.ensures.inside)
    (λ on. false≢true (sym c.if-not-has_guidance.true ∙ c.has_guidance.ensures ∙ on))

pub returns-then-guided-braked-clause-after : goal.returns-then-guided-braked-clause-after
returns-then-guided-braked-clause-after c =
    let falls = map target_of c.args.falls.now in
    let long = length-map c.args.falls.now target_of in
    none_guided falls c.args.i (omega (arith, long, c.requires.known)) c.args.braking.now c.none_before_to-guided.result
    c.none_before_to-braked.result c.none_before_to-guided.result
    (rw (c.brakes.ensures.falls, c.brakes.ensures.slopes) at c.none_before_to-braked.ensures.after)
    (rw (c.guides.ensures.falls, c.guides.ensures.slopes) at c.none_before_to-guided.ensures.after)
    (rw c.brakes.ensures.falls at c.none_before_to-braked.ensures.inside)
    (rw c.guides.ensures.falls at c.none_before_to-guided.ensures.inside)
    (omega (arith, c.if-guided-braked.true)) (omega arith)

pub returns-else-guided-braked-clause-after : goal.returns-else-guided-braked-clause-after
returns-else-guided-braked-clause-after c =
    let falls = map target_of c.args.falls.now in
    let long = length-map c.args.falls.now target_of in
    none_guided falls c.args.i (omega (arith, long, c.requires.known)) c.args.braking.now c.none_before_to-braked.result
    c.none_before_to-braked.result c.none_before_to-guided.result
    (rw (c.brakes.ensures.falls, c.brakes.ensures.slopes) at c.none_before_to-braked.ensures.after)
    (rw (c.guides.ensures.falls, c.guides.ensures.slopes) at c.none_before_to-guided.ensures.after)
    (rw c.brakes.ensures.falls at c.none_before_to-braked.ensures.inside)
    (rw c.guides.ensures.falls at c.none_before_to-guided.ensures.inside)
    (omega arith) (omega (arith, c.if-guided-braked.false))
