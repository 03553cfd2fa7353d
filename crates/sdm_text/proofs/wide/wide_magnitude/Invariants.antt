-- So far the bytes are digits, and the number is theirs.
use Rattle.sdm_text.proofs.NumberDigits.{IsRead}
use Rattle.sdm_text.proofs.wide.wide_magnitude.Given as goal

abbrev pub invariant-loop-count : goal.invariant-loop-count
invariant-loop-count l = record { read : IsRead l.digits l.count l.number }
