-- The keys that are left decide.
use Rattle.std.proofs.Common.{◌≡◌, drop}
use Rattle.sdm_rules.specs.Ranges.{first_refused}
use Rattle.sdm_rules.proofs.ranges.first_refused.Given as goal

abbrev pub invariant-loop-key : goal.invariant-loop-key
invariant-loop-key l = first_refused (drop l.key-index l.keys) ≡ first_refused l.keys
