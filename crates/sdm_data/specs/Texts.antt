-- The text that `toml` prints for a document without floats, without dates, and with no arrays but of tables (own).
use Rattle.std.specs.Prelude.{ℕ, Bool, true, false, List, [], ◌∷◌, ◌++◌, codes, if◌then◌else◌}
use Rattle.std.specs.Fmt.{signed_decimal}
use Rattle.toml_writer.specs.Text.{string_text, dotted_text}
use Rattle.toml.specs.Data.{Data, string, integer, boolean, array, no_items, Members}
use Rattle.toml.specs.Tables.{Definition, key_value, std_table, array_table, Expression}
use Rattle.toml.specs.Text.{expressions, gap, header_open, header_close}

-- the text of a value that stands beside its key: of a string, a number, a flag, or an empty array
abbrev pub value_text : Data → List ℕ
value_text (string text) = string_text text
value_text (integer n) = signed_decimal n
value_text (boolean flag) = if flag then codes "true" else codes "false"
value_text (array no_items) = codes "[]"
value_text _ = []

-- the text of a line: a key with its value, or the header of a table or of an array's entry, before which an empty
-- line stands but at the start
abbrev pub line_text : Bool → List (List ℕ) × List ℕ → Definition → List ℕ
line_text started key (key_value value) = dotted_text key ++ (codes " = " ++ (value_text value ++ codes "\n"))
line_text started key std_table = gap started ++ (header_open false ++ (dotted_text key ++ header_close false))
line_text started key array_table = gap started ++ (header_open true ++ (dotted_text key ++ header_close true))

-- the text of lines
abbrev pub lines_text : Bool → List Expression → List ℕ
lines_text started [] = []
lines_text started (line ∷ more) = line_text started line.0 line.1 ++ lines_text true more

-- the text of a document, whose lines `toml` puts in their order: first the keys of a table that stand beside their
-- values, and then the tables in it, both by their names
unfoldable pub document_text : Members → List ℕ
document_text members = lines_text false (expressions members)
