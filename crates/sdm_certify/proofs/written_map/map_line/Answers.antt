-- Past the lines before them the lines of segments stand.
use Rattle.std.proofs.Common.{◌≡◌, suc, length, map, sym, ◌∙◌, ap, arith}
use Rattle.sdm_rules.specs.Slopes.{meaning_of}
use Rattle.sdm_certify.specs.WrittenLines.{first_cell, head_line, segment_line, uppers_lines, written}
use Rattle.sdm_certify.proofs.WrittenSegments.{past_lines}
use Rattle.sdm_certify.proofs.written_map.map_line.Goals as goal

pub returns-else-i-before : goal.returns-else-i-before
returns-else-i-before c =
    let m = c.args.map.now in
    let on = meaning_of m in
    let before : c.lines_before_segments-before.result ≡ suc (length (uppers_lines on)) =
    omega (arith, c.lines_before_segments-before.ensures) in
    c.segment_line.ensures ∙ ap (λ i. segment_line on (first_cell m i)) c.nth_written.ensures.value
    ∙ sym (past_lines (head_line on (length (map (first_cell m) (written m)))) (uppers_lines on) (segment_line on) (first_cell m) (written m) c.args.i
    c.lines_before_segments-before.result before (omega (arith, c.if-i-before.false))
    c.requires.known)
