-- So far the segments of the lines before are read and start before the least start of the next, and the rest of them
-- is in the lines that are left.
use Rattle.std.proofs.Common.{◌≡◌, pos, ◌-◌, ◌*◌, ◌≤◌, length, All}
use Rattle.sdm_curve.specs.Maps.{IsSlopeBounded}
use Rattle.sdm_certify.specs.Lines.{segments_after, segments_in}
use Rattle.sdm_certify.proofs.ReadOn.{AreStartsBelow}
use Rattle.sdm_certify.proofs.map_text.read_segments.Given as goal

abbrev pub invariant-loop-i : goal.invariant-loop-i
invariant-loop-i l = record {
  left : segments_in l.bands l.count l.fn.lines
      ≡ segments_after l.bands (record { starts = l.starts.items; slopes = l.slopes.items }) (l.count - l.i)
      (pos l.least) (pos l.greatest) l.lines;
  count : length l.starts.items ≡ l.i;
  slopes : length l.slopes.items ≡ l.i * l.bands;
  range : All IsSlopeBounded l.slopes.items;
  none : l.i ≡ 0 → l.greatest ≡ 0;
  high : l.greatest ≤ 10_200_000;
  starts : AreStartsBelow l.starts.items l.least;
}
