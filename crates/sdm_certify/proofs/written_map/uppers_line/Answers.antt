-- Each turn puts the next upper speed.
use Rattle.std.proofs.Common.{◌≡◌, ◌<◌, ◌∷◌, ◌++◌, [], suc, take, map, decimal, get_or, length, ap, ◌∙◌, add-one, arith}
use Rattle.std.proofs.Math.Seq.{take-suc}
use Rattle.std.proofs.lemmas.List.{map-append}
use Rattle.sdm_certify.proofs.AddedFields.{field_added}
use Rattle.sdm_certify.proofs.written_map.uppers_line.Goals as goal

pub loop-i-preserved : goal.loop-i-preserved
loop-i-preserved c =
    let uppers = c.args.map.now.uppers in
    let i = c.loop-i.i in
    let known : i < length uppers = omega (arith, c.loop-i-test.true, c.bands-i-end.ensures.value) in
    let put : c.add_count.new.into ≡ c.loop-i.into ++ 44 ∷ decimal (get_or uppers i 0) =
    rw (c.notches.ensures.value, c.upper.ensures) at c.add_count.ensures.text in
    let one_more : map decimal (take (suc i) uppers) ≡ map decimal (take i uppers) ++ decimal (get_or uppers i 0) ∷ [] =
    ap (map decimal) (take-suc uppers i 0 known) ∙ map-append decimal (take i uppers) (get_or uppers i 0 ∷ []) in
    rw (add-one, one_more) (record {
      put = field_added _ _ _ _ _ c.loop-i.invariant.put put;
      short = omega (arith, c.loop-i.invariant.short, c.add_count.ensures.short);
    })
