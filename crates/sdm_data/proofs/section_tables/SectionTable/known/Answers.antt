-- A key of the map that is none of the names is one of the members.
use Rattle.std.proofs.Common.{◌≡◌, true, false, map, sym, ◌∙◌}
use Rattle.toml.specs.View.{table_view}
use Rattle.sdm_data.specs.Members.{has_unknown, known}
use Rattle.sdm_data.proofs.TableLaws.{unknown_keys}
use Rattle.sdm_data.proofs.section_tables.SectionTable.known.Goals as goal

pub returns-then-has_unknown : goal.returns-then-has_unknown
unfolding known
returns-then-has_unknown c =
    let some : has_unknown (map (λ name. name.now) c.args.names.now) (table_view c.args.self.now.table.now) ≡ true =
    sym (unknown_keys c.args.names.now c.args.self.now.table.now.entries) ∙ sym c.has_unknown.ensures
    ∙ c.if-has_unknown.true in
    rw some

pub returns : goal.returns
unfolding known
returns c =
    let none : has_unknown (map (λ name. name.now) c.args.names.now) (table_view c.args.self.now.table.now) ≡ false =
    sym (unknown_keys c.args.names.now c.args.self.now.table.now.entries) ∙ sym c.has_unknown.ensures
    ∙ c.if-has_unknown.false in
    rw none
