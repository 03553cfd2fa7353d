-- Slopes that are too varied are not accepted.
use Rattle.sdm_certify.specs.Written.{map_view}
use Rattle.sdm_certify.proofs.RefusedMaps.{varied_is_refused}
use Rattle.sdm_certify.proofs.checker.made_of.Goals as goal

pub returns-in-Err-TooVaried-clause-made : goal.returns-in-Err-TooVaried-clause-made
returns-in-Err-TooVaried-clause-made c = varied_is_refused (map_view c.args.written.now) _ _ _ (rw (
  c.in-Err-TooVaried.field-0-is,
  c.deref.ensures.value,
  c.deref-2.ensures.value,
  c.deref-3.ensures.value,
) at c.in-Err-TooVaried.ensures.fault)
