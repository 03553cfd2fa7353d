-- A look-up in the map of a table is one in its members.
use Rattle.toml.proofs.Views.{table_get}
use Rattle.sdm_data.proofs.section_tables.value_at.Goals as goal

pub returns : goal.returns
returns c = table_get c.get.result c.args.name.now c.args.table.now.entries c.get.ensures.value
