use Rattle.std.proofs.Common.{◌≡◌, ◌++◌, length, Some, codes, sym, ap, ◌∙◌}
use Rattle.std.specs.Fmt.{decimal}
use Rattle.toml.specs.View.{view}
use Rattle.table_check.specs.Found.{printed_value}
use Rattle.table_check.proofs.TreeLemmas.{printed-array}
use Rattle.table_check.proofs.found.FoundDisplay.fmt.Goals as goal

-- a list is told by the number of its items
pub returns-in-Array-clause-writes : goal.returns-in-Array-clause-writes
returns-in-Array-clause-writes g c =
    let told : printed_value (view c.args.self.now.value.now)
    ≡ Some (codes "a list of " ++ decimal (length c.as_slice.result.now)) =
    printed-array c.args.self.now.value.now c.in-Array.items c.in-Array.is
    ∙ ap (λ items. Some (codes "a list of " ++ decimal (length items))) (sym c.as_slice.ensures.value) in
    rw told c.write-in-Array.ensures.writes
