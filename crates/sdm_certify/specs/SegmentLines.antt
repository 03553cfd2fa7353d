-- A `seg` line as the program holds it (own).
use Rattle.std.specs.Prelude.{pos}
use Rattle.sdm_certify.specs.declared.forms.SegmentLine.{SegmentLine}
use Rattle.sdm_certify.specs.Lines.{Segment}

-- the segment of a line
abbrev pub segment_view : SegmentLine → Segment
segment_view s = record { start = pos s.start; slopes = s.slopes.items }
