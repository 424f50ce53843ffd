use Rattle.std.proofs.Common.{sym}
use Rattle.door_file.proofs.TreeLemmas.{kinds_range-array}
use Rattle.door_file.proofs.checks.has_kinds.Goals as goal

pub returns-in-Array : goal.returns-in-Array
returns-in-Array c = rw (c.are_enough_kinds.ensures, c.as_slice.ensures.value)
    (sym (kinds_range-array _ _ c.args.needed c.in-Array.is))
