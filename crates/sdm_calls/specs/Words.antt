-- The words of a call, and what they ask for (own).
use Rattle.std.specs.Prelude.{ℕ, ◌==◌, List, [], ◌∷◌, ◌++◌, Option, Some, None, if◌then◌else◌}
use Rattle.std.specs.Str.Lossy.{utf8_lossy}
use Rattle.sdm_run.specs.declared.words.Command.{Command}
use Rattle.sdm_run.specs.Words.{command_of}
use Rattle.sdm_words.specs.declared.about.About.{About}
use Rattle.sdm_words.specs.declared.asked.Asked.{Asked}
use Rattle.sdm_words.specs.declared.asked.Asked.TheVariants as asked

-- the words of bytes that come after those of a word that has begun: a zero byte divides two words, and what is no UTF-8
-- stands for the replacement character, which no command has
unfoldable pub words_after : List ℕ → List ℕ → List (List ℕ)
words_after word [] = utf8_lossy word ∷ []
words_after word (b ∷ rest) =
    if b == 0 then utf8_lossy word ∷ words_after [] rest else words_after (word ++ b ∷ []) rest

-- the words that bytes are: one more than they have zero bytes
abbrev pub words_in : List ℕ → List (List ℕ)
words_in bytes = words_after [] bytes

-- the command among what words ask for
abbrev pub command_asked : Asked → List (List ℕ) → Option Command
command_asked asked.Live words = None
command_asked (asked.About about) words = None
command_asked asked.Command words = command_of words

-- what of itself the program is asked
abbrev pub about_asked : Asked → Option About
about_asked asked.Live = None
about_asked (asked.About about) = Some about
about_asked asked.Command = None
