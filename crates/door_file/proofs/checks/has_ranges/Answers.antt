use Rattle.std.proofs.Common.{sym}
use Rattle.door_file.proofs.TreeLemmas.{gates_range-array}
use Rattle.door_file.proofs.checks.has_ranges.Goals as goal

pub returns-in-Array : goal.returns-in-Array
returns-in-Array c = rw (c.are_enough_ranges.ensures, c.as_slice.ensures.value)
    (sym (gates_range-array _ _ c.args.needed c.in-Array.is))
