-- What a call owes for its words and the bytes of its input (own).
use Rattle.std.specs.Prelude.{ℕ, List, Option, Some, None, ⊤}
use Rattle.sdm_formats.specs.Flat.{Output}
use Rattle.sdm_formats.specs.Input as ends
use Rattle.sdm_run.specs.declared.words.Command.{Command}
use Rattle.sdm_run.specs.Commands.{OfOutput}
use Rattle.sdm_words.specs.declared.about.About.{About}
use Rattle.sdm_words.specs.Abouts.{text_of}
use Rattle.sdm_words.specs.Words.{asked_of}
use Rattle.sdm_calls.specs.Words.{about_asked, command_asked, words_in}

-- the output of what the program says of itself: a text and no fault
abbrev pub about_output : About → Output
about_output about = record { text = text_of about; end = ends.Done }

-- this holds of the one output that is defined for what is asked, if anything is
abbrev pub OfOutputAsked : Option About → Option Command → List ℕ → (Output → Type 0) → Type 0
OfOutputAsked (Some about) command bytes P = P (about_output about)
OfOutputAsked None (Some command) bytes P = OfOutput command bytes P
OfOutputAsked None None bytes P = ⊤

-- THE OUTPUT OF A CALL: this holds of the one output that is defined for its words and the bytes of its input, if its words
-- ask for any: what the command of these words defines, or what the program says of itself
abbrev pub OfOutputIn : List ℕ → List ℕ → (Output → Type 0) → Type 0
OfOutputIn words bytes P =
    OfOutputAsked (about_asked (asked_of (words_in words)))
    (command_asked (asked_of (words_in words)) (words_in words)) bytes P

-- neither a command nor the program itself is asked for
abbrev pub IsNothing : Option About → Option Command → Type 0
IsNothing (Some about) command = ⊥
IsNothing None (Some command) = ⊥
IsNothing None None = ⊤

-- the words of a call ask for nothing that it answers
abbrev pub AsksNothing : List ℕ → Type 0
AsksNothing words =
    IsNothing (about_asked (asked_of (words_in words))) (command_asked (asked_of (words_in words)) (words_in words))
