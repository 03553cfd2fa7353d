-- What `toml` prints of the table is the text that is defined for it, and is read back.
use Rattle.std.proofs.Common.{◌≤◌, Some, ap, sym, subst, ◌∙◌, string_bytes, false}
use Rattle.std.specs.Str.{IsUtf8}
use Rattle.toml.specs.Data.{Members, members_depth}
use Rattle.toml.specs.Text.{IsDocumentText}
use Rattle.sdm_data.specs.Tables.{table_of}
use Rattle.sdm_data.proofs.DocumentLaws.{document_some}
use Rattle.sdm_data.proofs.PlainTables.{not_deep, text_is}
use Rattle.sdm_data.proofs.texts.text_of.Goals as goal

pub returns-clause-text : goal.returns-clause-text
returns-clause-text c =
    text_is c.args.journey.now.0 c.args.journey.now.1 (string_bytes c.in-Ok.text)
    (subst (λ (ms : Members). IsDocumentText false ms (string_bytes c.in-Ok.text)) c.in_ok-table.ensures
    c.in-Ok.ensures.text)

pub returns-clause-document : goal.returns-clause-document
returns-clause-document c =
    let d = c.args.journey.now.0 in
    let a = c.args.journey.now.1 in
    let utf8 : IsUtf8 (string_bytes c.in-Ok.text) = subst IsUtf8 c.as_str.ensures.value c.as_str.utf8 in
    let shallow : members_depth (table_of d a) ≤ 80 = not_deep d a in
    document_some (string_bytes c.in-Ok.text) (table_of d a) utf8
    (c.in-Ok.ensures.reads_back (subst (λ (ms : Members). members_depth ms ≤ 80) (sym c.in_ok-table.ensures) shallow)
    ∙ ap Some c.in_ok-table.ensures)
