use Rattle.std.proofs.Common.{◌↔◌, drop}
use Rattle.sdm_rules.specs.Slopes.{meaning_of}
use Rattle.sdm_certify.specs.Steps.{AreLeading}
use Rattle.sdm_certify.proofs.steps.are_leading.Given as goal

abbrev pub invariant-loop-i : goal.invariant-loop-i
invariant-loop-i l =
    AreLeading (meaning_of l.map) l.svl l.marks ↔ AreLeading (meaning_of l.map) l.svl (drop l.i l.marks)
