-- A number below 2^32 has at most ten digits.
use Rattle.std.proofs.Common.{◌≡◌, ◌≤◌, length, decimal, pos, to_z, of_z, w64, ◌∙◌, arith, rules, length-append}
use Rattle.std.proofs.lemmas.Int.{ints, to_z-of_z}
use Rattle.std.proofs.lemmas.Fmt.{length-decimal-le}
use Rattle.sdm_report.proofs.fields.put_count.Goals as goal

pub number-requires : goal.number-requires
number-requires c =
    let short : length (decimal c.args.number)
    ≤ 10 = length-decimal-le 10 c.args.number (omega arith) (omega arith) (omega arith) in
    let same : to_z w64 (of_z w64 c.from.result)
    ≡ pos c.args.number = to_z-of_z w64 c.from.result (search (rules, ints)) ∙ c.from.ensures in
    rw same (omega arith)

pub returns-clause-short : goal.returns-clause-short
returns-clause-short c =
    let short : length (decimal c.args.number)
    ≤ 10 = length-decimal-le 10 c.args.number (omega arith) (omega arith) (omega arith) in
    let same : to_z w64 (of_z w64 c.from.result)
    ≡ pos c.args.number = to_z-of_z w64 c.from.result (search (rules, ints)) ∙ c.from.ensures in
    rw (c.number.ensures.text, same, length-append) (omega arith)
