-- So far the words and what comes of the rest, after the word that has begun, are those of all bytes.
use Rattle.std.proofs.Common.{◌≡◌, ◌++◌, [], drop, map, string_bytes}
use Rattle.sdm_calls.specs.Words.{words_after}
use Rattle.sdm_calls.proofs.words.words_of.Given as goal

abbrev pub invariant-loop-byte : goal.invariant-loop-byte
invariant-loop-byte l =
    map string_bytes l.words.items ++ words_after l.word.items (drop l.byte-index l.given) ≡ words_after [] l.given
