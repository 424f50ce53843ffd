use Rattle.std.proofs.Common.{sym}
use Rattle.door_file.proofs.TreeLemmas.{gates-array}
use Rattle.door_file.proofs.checks.has_gates.Goals as goal

pub returns-in-Array : goal.returns-in-Array
returns-in-Array c = rw (c.are_gates.ensures, c.as_slice.ensures.value) (sym (gates-array _ _ c.in-Array.is))
