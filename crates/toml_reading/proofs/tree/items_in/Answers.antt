use Rattle.std.proofs.Common.{sym}
use Rattle.toml_reading.proofs.TreeLemmas.{items_in-array}
use Rattle.toml_reading.proofs.tree.items_in.Goals as goal

pub returns-in-Array : goal.returns-in-Array
returns-in-Array c = rw c.as_slice.ensures.value (sym (items_in-array _ _ c.in-Array.is))
