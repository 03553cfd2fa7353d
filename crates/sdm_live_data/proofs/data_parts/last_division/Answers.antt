-- The last line has no end, so it divides as a whole or not at all.
use Rattle.std.proofs.Common.{refl}
use Rattle.sdm_live_data.proofs.LastLines.{last_divides, last_undivided}
use Rattle.sdm_live_data.proofs.data_parts.last_division.Goals as goal

pub returns-in-Some-clause-divided : goal.returns-in-Some-clause-divided
returns-in-Some-clause-divided c =
    last_divides c.args.bytes.now c.args.line_start c.requires c.in-Some.data_end c.in-Some.records_start
    c.in-Some.ensures.value c.in-Some.ensures.within

pub returns-in-None-clause-refused : goal.returns-in-None-clause-refused
returns-in-None-clause-refused c =
    (refl, last_undivided c.args.bytes.now c.args.line_start c.requires c.in-None.ensures.value)
