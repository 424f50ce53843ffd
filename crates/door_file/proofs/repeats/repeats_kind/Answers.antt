use Rattle.std.proofs.Common.{sym}
use Rattle.door_file.proofs.TreeLemmas.{repeat-array}
use Rattle.door_file.proofs.repeats.repeats_kind.Goals as goal

pub returns-in-Array : goal.returns-in-Array
returns-in-Array c = λ earlier. rw (c.has_twice.ensures, c.as_slice.ensures.value)
    (sym (repeat-array _ _ earlier c.in-Array.is))
