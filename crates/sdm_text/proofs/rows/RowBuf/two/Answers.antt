-- The table's entry of the number is put.
use Rattle.std.proofs.Common.{refl, append_assoc}
use Rattle.sdm_text.proofs.PairDigits.{pair_at}
use Rattle.sdm_text.proofs.rows.RowBuf.two.Goals as goal

pub returns : goal.returns
returns c =
    let entry = pair_at c.args.n c.requires.few in
    rw (c.byte-2.ensures, c.byte.ensures, append_assoc, entry.0, entry.1) refl
