-- One byte more: a zero byte ends the word that has begun, and any other is one of it.
use Rattle.std.proofs.Common.{◌≡◌, ◌==◌, ℕ, List, [], ◌∷◌, ◌++◌, true, false, refl, sym, append_assoc}
use Rattle.std.specs.Str.Lossy.{utf8_lossy}
use Rattle.sdm_calls.specs.Words.{words_after}

module _ (before all : List (List ℕ)) (word rest : List ℕ) where
  -- no byte more: the last word
  pub finished : rest ≡ [] → before ++ words_after word rest ≡ all → before ++ utf8_lossy word ∷ [] ≡ all
  unfolding words_after
  finished none h = rw (sym h, none) refl

  module _ (more : List ℕ) (b : ℕ) (is : rest ≡ b ∷ more) where
    -- a zero byte
    pub ended : (b == 0) ≡ true → before ++ words_after word rest ≡ all →
        (before ++ utf8_lossy word ∷ []) ++ words_after [] more ≡ all
    unfolding words_after
    ended zero h = rw (append_assoc, sym h, is, zero) refl

    -- any other
    pub grown : (b == 0) ≡ false → before ++ words_after word rest ≡ all →
        before ++ words_after (word ++ b ∷ []) more ≡ all
    unfolding words_after
    grown other h = rw (sym h, is, other) refl
