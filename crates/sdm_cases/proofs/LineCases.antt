-- Texts and their lines, lines and their fields.
use Rattle.std.proofs.Common.{◌≡◌, refl}
use Rattle.std.specs.Prelude.{[], ◌∷◌, codes, map}
use Rattle.sdm_formats.specs.Lines.{ended_lines, lines_of, comma_fields}

-- the last LF may be wanting; an empty line is a line, also one between two LFs at the end; a CR stays in its line
lines : map lines_of (codes "ab\n\nc" ∷ codes "ab\n" ∷ codes "ab\n\n" ∷ codes "ab\r\n" ∷ codes "\n" ∷ [] ∷ [])
    ≡ (codes "ab" ∷ [] ∷ codes "c" ∷ []) ∷ (codes "ab" ∷ []) ∷ (codes "ab" ∷ [] ∷ []) ∷ (codes "ab\r" ∷ []) ∷ ([] ∷ [])
    ∷ [] ∷ []
lines = refl

-- each line with the LF that ends it
with_their_ends : ended_lines (codes "ab\n\nc") ≡ codes "ab\n" ∷ codes "\n" ∷ codes "c" ∷ []
with_their_ends = refl

-- an empty field is a field, also the only one
fields : map comma_fields (codes "1,,22" ∷ codes "1," ∷ [] ∷ []) ≡ (codes "1" ∷ [] ∷ codes "22" ∷ [])
    ∷ (codes "1" ∷ [] ∷ []) ∷ ([] ∷ []) ∷ []
fields = refl
