-- What came since the first `seen` bytes has no line feed; or its last one ends lines, of which one divides or none.
use Rattle.std.proofs.Common.{arith}
use Rattle.sdm_live_data.proofs.LastLines.{end_within, if_none, no_feed_came, none_divides, one_divides, start_first}
use Rattle.sdm_live_data.proofs.data_parts.whole_division.Goals as goal

pub returns-in_err-last-clause-wanting : goal.returns-in_err-last-clause-wanting
returns-in_err-last-clause-wanting c =
    if_none c.from_residual.result _
    (no_feed_came c.args.bytes.now c.args.line_start.now c.args.seen c.requires.last c.requires.seen c.in_err-last.ensures)

pub slice_bounds-split-count : goal.slice_bounds-split-count
slice_bounds-split-count c =
    start_first c.args.bytes.now c.args.line_start.now c.args.seen c.requires.last c.requires.seen c.in_ok-last.last
    c.in_ok-last.ensures

pub slice_bounds-split-start : goal.slice_bounds-split-start
slice_bounds-split-start c =
    let first = start_first c.args.bytes.now c.args.line_start.now c.args.seen c.requires.last c.requires.seen
    c.in_ok-last.last c.in_ok-last.ensures in
    let within = end_within c.args.bytes.now c.args.line_start.now c.args.seen c.requires.last c.requires.seen
    c.in_ok-last.last c.in_ok-last.ensures in
    omega (arith, first, within)

pub returns-in_default-clause-wanting : goal.returns-in_default-clause-wanting
returns-in_default-clause-wanting c =
    none_divides c.args.bytes.now c.args.line_start.now c.args.seen c.requires.last c.requires.seen c.in_ok-last.last
    c.in_ok-last.ensures c.in_default.ensures.value

pub returns-clause-found : goal.returns-clause-found
returns-clause-found c =
    one_divides c.args.bytes.now c.args.line_start.now c.args.seen c.requires.last c.requires.seen c.in_ok-last.last
    c.in_ok-last.ensures c.in-Some.data_end c.in-Some.records_start c.in-Some.ensures.value c.in-Some.ensures.within
