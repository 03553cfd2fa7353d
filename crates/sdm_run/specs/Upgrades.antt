-- The command `upgrade`: the text of version 2 that it defines for a data part (own).
use Rattle.std.specs.Prelude.{◌≡◌, ℕ, List, [], Option, Some, None, Result, Ok, Err}
use Rattle.toml.specs.Data.{Members}
use Rattle.sdm_rules.specs.declared.authorities.Authority.{Authority}
use Rattle.sdm_rules.specs.Data.{TrainAndTrack}
use Rattle.sdm_formats.specs.declared.faults.DataFault.{DataFault}
use Rattle.sdm_formats.specs.Flat.{Output}
use Rattle.sdm_formats.specs.Input as ends
use Rattle.sdm_data.specs.Document.{document_of}
use Rattle.sdm_data.specs.Journey.{data_of}
use Rattle.sdm_data.specs.Tables.{table_of}
use Rattle.sdm_data.specs.Texts.{document_text}
use Rattle.sdm_opening.specs.Openings.{IsDataOf}

-- for data the text of their table of version 2; else no text, and the first rule that is broken
abbrev pub output_of_data : Result (TrainAndTrack × Authority) DataFault → Output
output_of_data (Ok read) = record { text = document_text (table_of read.0 read.1); end = ends.Done }
output_of_data (Err fault) = record { text = []; end = ends.Data fault }

-- that of the data of a document, if there is one
abbrev pub output_of_document : Option Members → Output
output_of_document (Some members) = output_of_data (data_of members)
output_of_document None = record { text = []; end = ends.Toml }

-- what `upgrade` defines for the bytes of an input, all of which are the data part: no line of them divides
abbrev pub upgrade_output : List ℕ → Output
upgrade_output bytes = output_of_document (document_of bytes)

-- Where the bytes are data, the text that is defined for them is a document: the table of version 2 of these data. So
-- it holds the same data (`law_of_tables`).
abbrev pub IsReadBack : List ℕ → Type 0
IsReadBack bytes = (d : TrainAndTrack) (a : Authority) → IsDataOf bytes d a →
    document_of (upgrade_output bytes).text ≡ Some (table_of d a)

-- the text is the one that is defined for the bytes, which are data, and it is read back
pub record IsUpgradedTo (bytes text : List ℕ) : Type 0 where
  pub output_is : upgrade_output bytes ≡ record { text = text; end = ends.Done }
  pub read_back : IsReadBack bytes
