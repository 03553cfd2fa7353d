-- What was read is in the ranges of its lines, and so a map may be made of it.
use Rattle.std.proofs.Common.{◌≡◌, ◌∙◌, suc, pos, length, arith}
use Rattle.sdm_curve.specs.Maps.{IsSlopeBounded}
use Rattle.sdm_certify.specs.Lines.{slopes_by_band}
use Rattle.sdm_certify.proofs.ByBand.{as_many, of_all}
use Rattle.sdm_certify.proofs.map_text.read_map.Goals as goal

pub returns-clause-range : goal.returns-clause-range
returns-clause-range c =
    let head = c.in_ok-head.head in
    let read = c.in_ok-read.ensures in
    let written = c.in_ok-read.read.slopes.items in
    let uppers : c.in-Ok-speeds.uppers.items ≡ c.in_ok-uppers.uppers.items =
    c.in-Ok-speeds.ensures ∙ c.deref-2.ensures.0 in
    let slopes : c.in-Ok.slopes.items ≡ slopes_by_band head.bands written head.segments head.bands =
    rw c.deref.ensures.value at c.in-Ok.ensures in
    let bands : suc (length c.in_ok-uppers.uppers.items) ≡ head.bands = omega (arith, c.in_ok-uppers.ensures.count) in
    let all = of_all head.bands written IsSlopeBounded head.segments read.range read.slopes head.bands (omega arith) in
    record {
      low_q = c.in_ok-head.ensures.q.0;
      high_q = c.in_ok-head.ensures.q.1;
      uppers = rw uppers c.in_ok-uppers.ensures.uppers;
      starts = read.starts;
      lengths = rw (slopes, uppers, bands, read.count) (as_many head.bands written head.segments head.bands);
      bounded = λ k lt. rw slopes (all k (pos 0) (rw slopes at lt));
    }
