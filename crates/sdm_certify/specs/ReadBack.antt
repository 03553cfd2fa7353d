-- What is written is read back: the map, and the claims with their marks, which hold on it (own).
use Rattle.std.specs.Prelude.{◌≡◌, ℕ, List, [], ◌∷◌, ◌++◌, Some, None, Ok, All, ◌≤◌}
use Rattle.sdm_rules.specs.Certificates.{Hold}
use Rattle.sdm_rules.specs.Slopes.{Slopes, SlopeMap, meaning_of}
use Rattle.sdm_formats.specs.Lines.{lines_of}
use Rattle.sdm_curve.specs.Maps.{MapData}
use Rattle.sdm_certify.specs.Checker.{IsMadeOf}
use Rattle.sdm_certify.specs.Lines.{Certified, LinesLeft, lines_in, map_in, next_claim}

-- the text is read as the map of these slopes, which are accepted, whatever follows it; and what follows is left
pub record IsMapOf (on : Slopes) (text more : List ℕ) : Type 0 where
  pub written : MapData
  pub left : LinesLeft
  pub read : map_in (lines_in (text ++ more)) ≡ Ok (written, left)
  pub left_is : left.lines ≡ lines_of more
  pub made : SlopeMap
  pub is_made : IsMadeOf written (Some made)
  pub slopes : meaning_of made ≡ on

-- no upper speed is above the greatest that is written, in notches
abbrev pub AreWrittenSpeeds : List ℕ → Type 0
AreWrittenSpeeds uppers = All (λ v. v ≤ 20_000_000) uppers

-- the text is read back as the map of these slopes
abbrev pub IsReadBack : Slopes → List ℕ → Type 0
IsReadBack on text = AreWrittenSpeeds on.uppers → (more : List ℕ) → IsMapOf on text more

-- the claims from the lines on, up to the end of the text, are these with their marks, and the marks of each hold on
-- the map
abbrev pub AreHeld : SlopeMap → LinesLeft → List Certified → Type 0
AreHeld made at [] = next_claim at ≡ None
AreHeld made at (c ∷ more) = (after : LinesLeft) × (next_claim at ≡ Some (Ok (c, after)))
    × Hold (meaning_of made) c.claim c.marks × AreHeld made after more

-- MARKS HOLD ON THE MAP ABOVE THEM: the text begins with a map of these slopes, which are accepted, and after it has
-- these claims with marks that hold on the map, and nothing else
pub record IsHeldText (on : Slopes) (text : List ℕ) (certified : List Certified) : Type 0 where
  pub written : MapData
  pub left : LinesLeft
  pub read : map_in (lines_in text) ≡ Ok (written, left)
  pub made : SlopeMap
  pub is_made : IsMadeOf written (Some made)
  pub slopes : meaning_of made ≡ on
  pub held : AreHeld made left certified
