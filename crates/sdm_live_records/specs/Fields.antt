-- The fields of one line, with commas between them and quotes as in RFC 4180, as `csv` reads them (own).
use Rattle.std.specs.Prelude.{ℕ, List, [], ◌∷◌, ◌++◌, ◌==◌, if◌then◌else◌}
use Rattle.csv.specs.Reading.{strip_bom}
use Rattle.csv.specs.Records.{Row, fields_of, partial_of}
use Rattle.sdm_live_records.specs.declared.line_fields.Within.{Within}
use Rattle.sdm_live_records.specs.declared.line_fields.Within.TheVariants.{Start, Plain, Quotes, AfterQuote}

-- the fields so far, the bytes of the field at hand, and where the line stands within it
pub record Split : Type 0 where
  pub fields : List (List ℕ)
  pub field : List ℕ
  pub within : Within

-- a byte that no quote governs: a comma ends the field
abbrev pub plain_byte : Split → ℕ → Split
plain_byte s c =
    if c == 44 then record { fields = s.fields ++ s.field ∷ []; field = []; within = Start }
    else record { fields = s.fields; field = s.field ++ c ∷ []; within = Plain }

-- a byte: quotes stand at the start of a field, and two of them within quotes are one
abbrev pub byte_in : Within → Split → ℕ → Split
byte_in Start s c =
    if c == 34 then record { fields = s.fields; field = s.field; within = Quotes } else plain_byte s c
byte_in Plain s c = plain_byte s c
byte_in Quotes s c =
    if c == 34 then record { fields = s.fields; field = s.field; within = AfterQuote }
    else record { fields = s.fields; field = s.field ++ c ∷ []; within = Quotes }
byte_in AfterQuote s c =
    if c == 34 then record { fields = s.fields; field = s.field ++ c ∷ []; within = Quotes } else plain_byte s c

-- a byte, by where the line stands (own)
abbrev pub split_byte : Split → ℕ → Split
split_byte s c = byte_in s.within s c

-- bytes, one after the other (own)
abbrev pub split_bytes : Split → List ℕ → Split
split_bytes s [] = s
split_bytes s (c ∷ cs) = split_bytes (split_byte s c) cs

-- nothing of the line has come (own)
abbrev pub nothing_split : Split
nothing_split = record { fields = []; field = []; within = Start }

-- at the end of the line the field at hand ends
abbrev pub fields_at_end : Split → List (List ℕ)
fields_at_end s = s.fields ++ s.field ∷ []

-- the fields of bytes, whatever they begin with
abbrev pub split_fields : List ℕ → List (List ℕ)
split_fields bytes = fields_at_end (split_bytes nothing_split bytes)

-- THE FIELDS of a line: those of its bytes after a byte order mark, if one begins it
abbrev pub line_fields : List ℕ → List (List ℕ)
line_fields line = split_fields (strip_bom line)

-- ---- in memory

-- the fields in memory: their bytes, and where each ends (own)
abbrev pub row_from : List ℕ → List ℕ → Row
row_from bytes ends = record { bytes = bytes; ends = ends }

-- where the dividing of a line stands in memory (own)
abbrev pub split_of : Row → Within → Split
split_of row within = record { fields = fields_of row; field = partial_of row; within = within }
