-- Where the middle isn't clear, no millimetre up to it is.
use Rattle.std.proofs.Common.{◌≡◌, ◌+◌, ◌-◌, ◌/◌, false, arith, sym, ◌∙◌}
use Rattle.sdm_rules.specs.declared.data.SlopeKind.TheVariants.{Expected}
use Rattle.sdm_rules.specs.Decelerations.{slopes_of}
use Rattle.sdm_supervisor.specs.Clearances.{clears_mm}
use Rattle.sdm_supervisor.proofs.ClearLaws.{none_up_to, turn_halves}
use Rattle.sdm_supervisor.proofs.clearances.RunUp.first_clear.Goals as goal

pub loop-turn-preserved-else-clears : goal.loop-turn-preserved-else-clears
loop-turn-preserved-else-clears c =
    let a = c.args in
    let on = slopes_of Expected a.braking.now in
    let middle = c.loop-turn.first + (c.loop-turn.clear - c.loop-turn.first) / 2 in
    let not_clear : clears_mm on a.self.now.front a.self.now.way a.self.now.speed middle ≡ false =
    sym c.clears-then-first-clear.ensures.value ∙ c.if-clears.false in
    let kept = c.loop-turn.invariant in
    let halved = turn_halves c.loop-turn._turn (omega (arith, c.loop-turn-test.true)) in
    record {
      ordered = omega (arith, c.if-first-clear.true);
      width = omega (arith, kept.width, halved, c.if-first-clear.true);
      within = kept.within;
      clear = kept.clear;
      before = λ lesser lt. none_up_to on c.clears.ensures.usable a.self.now.front a.self.now.way a.self.now.speed
          middle lesser (omega arith) not_clear;
    }
