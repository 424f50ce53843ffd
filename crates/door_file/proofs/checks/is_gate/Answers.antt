use Rattle.std.proofs.Common.{sym}
use Rattle.door_file.proofs.TreeLemmas.{gate-array}
use Rattle.door_file.proofs.checks.is_gate.Goals as goal

pub returns-in-Array : goal.returns-in-Array
returns-in-Array c = rw (c.are_whole.ensures, c.as_slice.ensures.value) (sym (gate-array _ _ c.in-Array.is))
