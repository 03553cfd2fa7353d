-- Each turn passes the next one or leaves it out.
use Rattle.std.proofs.Common.{◌≡◌, ◌-◌, suc, true, false, length, get_or, ap, sym, ◌∙◌, add-one, arith}
use Rattle.sdm_certify.specs.WrittenLines.{is_written, written_from}
use Rattle.sdm_certify.proofs.WrittenSegments.{none_written, one_written, past_first}
use Rattle.sdm_certify.proofs.written_map.nth_written.Goals as goal
use Rattle.sdm_certify.proofs.written_map.nth_written.Goals.{then-is_written+else-left-eq0, else-is_written}

pub loop-i-preserved : goal.loop-i-preserved
loop-i-preserved c =
    let m = c.args.map.now in
    let i = c.loop-i.i in
    let h = c.loop-i.invariant in
    let is : length m.starts - i ≡ suc (length m.starts - suc i) =
    omega (arith, c.loop-i-test.true, c.segments-i-end.ensures.value) in
    let later = written_from m (suc i) (length m.starts - suc i) in
    rw add-one (elim c.if-is_written.branch [
      | then-is_written+else-left-eq0 w ↦
          let here : is_written m i ≡ true = rw c.is_written.ensures at w.if-is_written.true in
          let one = one_written m i _ _ is here in
          let past : c.loop-i.left ≡ suc c.if-is_written.left = omega (arith, w.if-left-eq0.false, w.left-is) in
          record {
            here = omega (arith, h.here, ap length one, past);
            same = h.same ∙ ap (λ xs. get_or xs c.loop-i.left 0) one ∙ past_first i later _ _ past;
          }
      | else-is_written w ↦
          let not_here : is_written m i ≡ false = rw c.is_written.ensures at w.if-is_written.false in
          let none = none_written m i _ _ is not_here in
          record {
            here = omega (arith, h.here, ap length none, w.left-is);
            same = rw w.left-is (h.same ∙ ap (λ xs. get_or xs c.loop-i.left 0) none);
          }
    ])

pub returns-then-left-eq0-clause-value : goal.returns-then-left-eq0-clause-value
returns-then-left-eq0-clause-value c =
    let m = c.args.map.now in
    let i = c.loop-i.i in
    let is : length m.starts - i ≡ suc (length m.starts - suc i) =
    omega (arith, c.loop-i-test.true, c.segments-i-end.ensures.value) in
    let here : is_written m i ≡ true = rw c.is_written.ensures at c.if-is_written.true in
    let one = one_written m i _ _ is here in
    sym (rw (c.if-left-eq0.true, one) at c.loop-i.invariant.same)
