-- What is said of the text of `upgrade`: it is the table of the data, and so it holds the same data.
use Rattle.std.proofs.Common.{◌≡◌, ℕ, List}
use Rattle.std.specs.Prelude.{Some}
use Rattle.sdm_rules.specs.declared.authorities.Authority.{Authority}
use Rattle.sdm_rules.specs.Data.{TrainAndTrack}
use Rattle.sdm_data.proofs.TablesBack.{read_again}
use Rattle.sdm_data.specs.Document.{document_of}
use Rattle.sdm_data.specs.Tables.{table_of}
use Rattle.sdm_opening.specs.Openings.{IsDataOf}
use Rattle.sdm_run.specs.Upgrades.{IsReadBack, upgrade_output}

-- the document of the text is the table of these data, and no other
text_is_the_table : (bytes : List ℕ) (d : TrainAndTrack) (a : Authority) → IsDataOf bytes d a → IsReadBack bytes →
    document_of (upgrade_output bytes).text ≡ Some (table_of d a)
text_is_the_table bytes d a given h = h d a given

-- so what is read of the text is what was read of the bytes
same_data : (bytes : List ℕ) (d : TrainAndTrack) (a : Authority) → IsDataOf bytes d a → IsReadBack bytes →
    IsDataOf (upgrade_output bytes).text d a
same_data bytes d a given h = record {
  members = table_of d a;
  document = h d a given;
  read = read_again given.members d a given.read;
}
