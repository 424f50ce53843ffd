use Rattle.std.proofs.Common.{sym}
use Rattle.door_file.proofs.TreeLemmas.{kinds-array}
use Rattle.door_file.proofs.checks.has_texts.Goals as goal

pub returns-in-Array : goal.returns-in-Array
returns-in-Array c = rw (c.are_texts.ensures, c.as_slice.ensures.value) (sym (kinds-array _ _ c.in-Array.is))
