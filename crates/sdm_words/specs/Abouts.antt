-- What the program says of itself (own).
use Rattle.std.specs.Prelude.{ℕ, List, [], get_or, map}
use Rattle.sdm_words.specs.declared.about.About.{About}
use Rattle.sdm_words.specs.declared.about.About.TheVariants.{Version, Help}
use Rattle.sdm_words.specs.declared.texts.TheConstants.{TEXTS}

-- the text that is written, which a script holds to be that of the changelog and of the manual
unfoldable pub text_of : About → List ℕ
text_of Version = get_or (map (λ text. text.now) TEXTS) 0 []
text_of Help = get_or (map (λ text. text.now) TEXTS) 1 []
