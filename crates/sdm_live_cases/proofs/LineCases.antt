-- Lines, and the fields of one, at texts worked by hand.
use Rattle.std.proofs.Common.{◌≡◌, [], ◌∷◌, ◌++◌, codes, refl}
use Rattle.csv.specs.Reading.{strip_bom}
use Rattle.sdm_live.specs.ByLines.{lines_of}
use Rattle.sdm_live_records.specs.Fields.{line_fields}

-- LF, CR and both end a line, an empty line is none, and the last one ends with the text
three_lines : lines_of (codes "ab\r\n\nc\rd") ≡ codes "ab" ∷ codes "c" ∷ codes "d" ∷ []
three_lines = refl

no_lines : lines_of (codes "\r\n\n") ≡ []
no_lines = refl

-- a quote within a field is a byte of it, two in a quoted field are one, a comma in quotes divides nothing, and what
-- follows a closing quote belongs to the field
six_fields : line_fields (codes "read,\"5\",a\"b,,\"x\"\"y\",\"p,q\"z")
    ≡ codes "read" ∷ codes "5" ∷ codes "a\"b" ∷ [] ∷ codes "x\"y" ∷ codes "p,qz" ∷ []
unfolding strip_bom
six_fields = refl

-- a quoted field ends with its line, whether or not a quote closes it
open_quotes : line_fields (codes "read,\"5,6") ≡ codes "read" ∷ codes "5,6" ∷ []
unfolding strip_bom
open_quotes = refl

-- a byte order mark that begins a line is passed over, one elsewhere is a byte of its field, and of two the first goes
marked_line : line_fields (239 ∷ 187 ∷ 191 ∷ codes "\"read\",5") ≡ codes "read" ∷ codes "5" ∷ []
unfolding strip_bom
marked_line = refl

marked_field : line_fields (codes "read," ++ 239 ∷ 187 ∷ 191 ∷ codes "5")
    ≡ codes "read" ∷ (239 ∷ 187 ∷ 191 ∷ codes "5") ∷ []
unfolding strip_bom
marked_field = refl

marked_twice : line_fields (239 ∷ 187 ∷ 191 ∷ 239 ∷ 187 ∷ 191 ∷ []) ≡ (239 ∷ 187 ∷ 191 ∷ []) ∷ []
unfolding strip_bom
marked_twice = refl

-- of a line of the mark alone one field is left, which is empty
mark_alone : line_fields (239 ∷ 187 ∷ 191 ∷ []) ≡ [] ∷ []
unfolding strip_bom
mark_alone = refl
