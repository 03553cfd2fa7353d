-- A zero byte ends the word that has begun, and any other is one of it.
use Rattle.std.proofs.Common.{rules}
use Rattle.std.proofs.lemmas.List.{drop_all, drop_more}
use Rattle.sdm_calls.proofs.CutWords.{ended, finished, grown}
use Rattle.sdm_calls.proofs.words.words_of.Goals as goal
use Rattle.sdm_calls.proofs.words.words_of.Goals.{then-byte-eq0+in_ok-push_word, else-byte-eq0+in_ok-push}

pub loop-byte-preserved : goal.loop-byte-preserved
loop-byte-preserved c = elim c.if-byte-eq0.branch [
  | then-byte-eq0+in_ok-push_word w ↦
      rw (w.words-is, w.word-is, w.clear.ensures.items, w.in_ok-push_word.ensures, w.deref.ensures.value)
      (ended _ _ _ _ _ _ (drop_more c.args.given.now c.loop-byte.byte-index 0 c.loop-byte-test.true) (search rules)
      c.loop-byte.invariant)
  | else-byte-eq0+in_ok-push w ↦
      rw (w.words-is, w.word-is, w.in_ok-push.ensures.items)
      (grown _ _ _ _ _ _ (drop_more c.args.given.now c.loop-byte.byte-index 0 c.loop-byte-test.true) (search rules)
      c.loop-byte.invariant)
]

pub returns : goal.returns
returns c =
    rw (c.in_ok-push_word-2.ensures, c.deref-2.ensures.value)
    (finished _ _ _ _ (drop_all _ _ c.loop-byte-test.false) c.loop-byte.invariant)
