use Rattle.std.proofs.Common.{length, sym, ap, ◌∙◌}
use Rattle.std.proofs.lemmas.List.{length-map}
use Rattle.toml.specs.View.{view}
use Rattle.table_check.proofs.tree.count_at.Goals as goal

-- a list has as many items as the code has values
pub returns : goal.returns
returns c = sym (length-map c.items_at.result.now view) ∙ ap length c.items_at.ensures
