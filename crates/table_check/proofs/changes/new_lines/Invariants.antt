use Rattle.std.proofs.Common.{◌≡◌, ◌++◌, [], take, drop, string_bytes}
use Rattle.table_check.specs.Changes.{line_if_new, lines_by}
use Rattle.table_check.proofs.changes.new_lines.Given as goal

-- the lines so far, with those of the places that are left, are all lines
abbrev pub invariant-loop-row : goal.invariant-loop-row
invariant-loop-row l =
    string_bytes l.text ++ lines_by (line_if_new l.old) (take l.row l.new) (drop l.row l.new)
    ≡ lines_by (line_if_new l.old) [] l.new
