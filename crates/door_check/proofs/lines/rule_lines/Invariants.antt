use Rattle.std.proofs.Common.{◌≡◌, ◌++◌, drop, map}
use Rattle.door_file.specs.Rule.{entry_of}
use Rattle.door_check.specs.Lines.{lines_behind}
use Rattle.door_check.proofs.lines.rule_lines.Given as goal

-- the lines so far, with those of the rules that are left, are all lines
abbrev pub invariant-loop-place : goal.invariant-loop-place
invariant-loop-place l =
    l.text.items ++ lines_behind l.place (map entry_of (drop l.place l.rules))
    ≡ lines_behind 0 (map entry_of l.rules)
