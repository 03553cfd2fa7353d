-- Each turn reads one more slope.
use Rattle.std.proofs.Common.{◌≡◌, ℤ, ◌+◌, ◌-◌, ◌∷◌, [], ◌++◌, suc, sym, ap, ◌∙◌, to_z, of_z, w64, length-append, arith}
use Rattle.std.proofs.Common.{rules}
use Rattle.std.proofs.lemmas.Int.{ints, to_z-of_z}
use Rattle.sdm_curve.specs.Maps.{IsSlopeBounded}
use Rattle.sdm_certify.proofs.ReadOn.{all_and, slope_read}
use Rattle.sdm_certify.proofs.fields.Fields.slopes.Goals as goal

pub loop-i-preserved : goal.loop-i-preserved
loop-i-preserved c =
    let h = c.loop-i.invariant in
    let n = c.in_ok-number.field-0 in
    let is : c.args.count - c.loop-i.i ≡ suc (c.args.count - (c.loop-i.i + 1)) = omega (arith, c.loop-i-test.true) in
    let read = sym c.in_ok-number.ensures.value in
    let range = c.in_ok-number.ensures.range in
    let same : to_z w64 (of_z w64 n) ≡ n = to_z-of_z w64 n (search (rules, ints)) in
    let items : c.push.new.self.items ≡ c.loop-i.slopes.items ++ n ∷ [] =
    c.push.ensures.items ∙ ap (λ (z : ℤ). c.loop-i.slopes.items ++ z ∷ []) same in
    rw items (record {
      left = h.left ∙ slope_read _ _ is _ _ _ _ read;
      range = all_and IsSlopeBounded _ _ h.range (record { low = range.0; high = range.1 });
      count = omega (arith, length-append c.loop-i.slopes.items (n ∷ []), h.count);
    })
