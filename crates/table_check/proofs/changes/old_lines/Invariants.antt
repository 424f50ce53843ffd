use Rattle.std.proofs.Common.{◌≡◌, ◌++◌, [], take, drop, string_bytes}
use Rattle.table_check.specs.Changes.{line_if_other, lines_by}
use Rattle.table_check.proofs.changes.old_lines.Given as goal

-- the lines so far, with those of the places that are left, are all lines
abbrev pub invariant-loop-row : goal.invariant-loop-row
invariant-loop-row l =
    string_bytes l.text ++ lines_by (line_if_other l.new) (take l.row l.old) (drop l.row l.old)
    ≡ lines_by (line_if_other l.new) [] l.old
