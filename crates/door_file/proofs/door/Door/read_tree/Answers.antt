use Rattle.toml.specs.View.{table_view}
use Rattle.door_file.proofs.DoorLemmas.{door-means}
use Rattle.door_file.proofs.door.Door.read_tree.Goals as goal

pub returns-clause-ok : goal.returns-clause-ok
returns-clause-ok c =
    door-means c.args.text.now (table_view c.in_ok-tree.tree) _ c.requires c.in_ok-tree.ensures.ok
    c.in_ok-tree.ensures.no_fault (rw c.items_at.ensures at c.in_ok-rules.ensures)
