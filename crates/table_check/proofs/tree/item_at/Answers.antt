use Rattle.table_check.proofs.TreeLemmas.{got-item}
use Rattle.table_check.proofs.tree.item_at.Goals as goal

pub returns : goal.returns
returns c = got-item c.args.rows.now c.args.place c.get.result c.get.ensures.lookup
