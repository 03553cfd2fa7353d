-- What out took stands over a flush, and a flush that failed is a write fault.
use Rattle.sdm_run.proofs.Flushes.{answer_failed}
use Rattle.sdm_run.proofs.endings.Ended.flushed.Goals as goal

pub returns-in-Err-clause-answer : goal.returns-in-Err-clause-answer
returns-in-Err-clause-answer g c output before h = answer_failed output before _ _ _ c.in-Err.ensures.bytes h
