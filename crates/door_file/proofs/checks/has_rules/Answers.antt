use Rattle.std.proofs.Common.{sym, ◌∙◌, ap, length}
use Rattle.door_file.proofs.TreeLemmas.{rules_range-array}
use Rattle.door_file.proofs.checks.has_rules.Goals as goal

pub returns-in-Array : goal.returns-in-Array
returns-in-Array c = λ needed. c.is_count.ensures
    ∙ sym (rules_range-array _ _ needed _ c.in-Array.is (ap length c.as_slice.ensures.value))
