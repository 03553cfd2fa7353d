-- Which part of the program the words after its name ask for (own).
use Rattle.std.specs.Prelude.{ℕ, List, [], ◌∷◌, codes, if◌then◌else◌}
use Rattle.std.specs.Str.{bytes_eq}
use Rattle.sdm_words.specs.declared.about.About.TheVariants.{Version, Help}
use Rattle.sdm_words.specs.declared.asked.Asked.{Asked}
use Rattle.sdm_words.specs.declared.asked.Asked.TheVariants as asked

-- what a word alone asks for
unfoldable pub asked_by_word : List ℕ → Asked
asked_by_word word =
    if bytes_eq word (codes "live") then asked.Live
    else if bytes_eq word (codes "version") then asked.About Version
    else if bytes_eq word (codes "help") then asked.About Help
    else asked.Command

-- what words ask for: `live`, `version` and `help` stand alone, and all other words are those of `sdm_main`
abbrev pub asked_of : List (List ℕ) → Asked
asked_of [] = asked.Command
asked_of (word ∷ []) = asked_by_word word
asked_of (word ∷ next ∷ more) = asked.Command
