-- The map of a table finds at a text what the members have there.
use Rattle.toml.proofs.Views.{table_get}
use Rattle.toml_reading.proofs.tree.value_at.Goals as goal

pub returns : goal.returns
returns c = table_get c.get.result c.args.key.now c.args.table.now.entries c.get.ensures.value
