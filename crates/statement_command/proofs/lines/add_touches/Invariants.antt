use Rattle.std.proofs.Common.{◌≡◌, ◌++◌, map, take}
use Rattle.statement_command.specs.declared.line.Line.TheVariants.{Touch}
use Rattle.statement_command.proofs.lines.add_touches.Given as goal

-- the lines of the touches so far were added
abbrev pub invariant-loop-touch : goal.invariant-loop-touch
invariant-loop-touch l =
    l.lines.items ≡ l.initial.lines.items ++ map (Touch l.day) (take l.touch-index l.touches)
