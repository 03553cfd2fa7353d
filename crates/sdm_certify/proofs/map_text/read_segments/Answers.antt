-- Each turn reads one more segment.
use Rattle.std.proofs.Common.{◌≡◌, ℤ, pos, ◌+◌, ◌-◌, ◌∷◌, [], ◌++◌, suc, ap, ◌∙◌, to_z, of_z, w32, length-append}
use Rattle.std.proofs.Common.{add-one, arith}
use Rattle.std.proofs.lemmas.Int.{ints, to_z-of_z}
use Rattle.std.proofs.lemmas.List.Elements.{All-append}
use Rattle.std.proofs.lemmas.Result.{err_from_is_err_and}
use Rattle.sdm_curve.specs.Maps.{IsSlopeBounded}
use Rattle.sdm_certify.proofs.ReadOn.{segment_read, segments_fault, start_read}
use Rattle.sdm_certify.proofs.map_text.read_segments.Goals as goal

pub returns-in_err-line-clause-fault : goal.returns-in_err-line-clause-fault
returns-in_err-line-clause-fault c =
    let is : c.args.count - c.loop-i.i ≡ suc (c.args.count - (c.loop-i.i + 1)) = omega (arith, c.loop-i-test.true) in
    let left = err_from_is_err_and c.from_residual.result c.from_residual.ensures.1 in
    rw (left.1, left.2, c.loop-i.invariant.left) (segments_fault _ _ is _ _ _ _ _ _ c.in_err-line.ensures.fault)

pub loop-i-preserved : goal.loop-i-preserved
loop-i-preserved c =
    let h = c.loop-i.invariant in
    let line = c.in_ok-line.line in
    let start = c.in_ok-line.ensures.start in
    let is : c.args.count - c.loop-i.i ≡ suc (c.args.count - (c.loop-i.i + 1)) = omega (arith, c.loop-i-test.true) in
    let same : to_z w32 (of_z w32 (pos line.start)) ≡ pos line.start =
    to_z-of_z w32 (pos line.start) (record { sfits = omega (arith, ints, start.1, h.high) }) in
    let starts : c.push.new.self.items ≡ c.loop-i.starts.items ++ pos line.start ∷ [] =
    c.in-Ok-push.ensures.items ∙ ap (λ (z : ℤ). c.loop-i.starts.items ++ z ∷ []) same in
    let slopes : c.extend_from_slice.new.self.items ≡ c.loop-i.slopes.items ++ line.slopes.items =
    c.in-Ok-extend_from_slice.ensures.items ∙ ap (λ t. c.loop-i.slopes.items ++ t) c.deref.ensures.0 in
    rw (starts, slopes) (record {
      left = h.left ∙ segment_read _ _ is _ _ _ _ _ _ _ c.in_ok-line.ensures.segment;
      count = omega (arith, length-append c.loop-i.starts.items (pos line.start ∷ []), h.count);
      slopes = omega (
        arith,
        length-append c.loop-i.slopes.items line.slopes.items,
        h.slopes,
        c.in_ok-line.ensures.count,
      );
      range = All-append IsSlopeBounded _ _ h.range c.in_ok-line.ensures.range;
      none = λ zero. absurd (omega (arith, zero));
      high = omega arith;
      starts = rw add-one (start_read _ _ line.start h.starts start.0
          (λ none. omega (arith, start.1, h.none (omega (arith, none, h.count)))));
    })
