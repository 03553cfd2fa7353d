-- What answers and values of the code stand for in the definitions: tables for their members (own).
use Rattle.std.specs.Prelude.{List, Result, Ok, Err}
use Rattle.std.specs.List.{filter_map}
use Rattle.sdm_formats.specs.declared.faults.DataFault.{DataFault}
use Rattle.toml.specs.Data.{Members, as_table}
use Rattle.toml.specs.View.{view, table_view}
use Rattle.toml.specs.declared.value.Value.{Value}
use Rattle.sdm_data.specs.declared.section_tables.SectionTable.{SectionTable}
use Rattle.sdm_data.specs.Members.{SectionMembers, section_of}

-- an answer, with its value as what it stands for
abbrev pub seen : {A B : Type 0} → (A → B) → Result A DataFault → Result B DataFault
seen as_what (Ok x) = Ok (as_what x)
seen as_what (Err fault) = Err fault

-- a table that is read as a section
abbrev pub members_of : SectionTable → SectionMembers
members_of s = section_of s.section s.index (table_view s.table.now)

-- the tables among some values
abbrev pub tables_in : List Value → List Members
tables_in values = filter_map (λ value. as_table (view value)) values
