use Rattle.std.proofs.Common.{◌≡◌, ◌++◌, map, take}
use Rattle.statement_command.specs.declared.line.Line.TheVariants.{Journey}
use Rattle.statement_command.proofs.lines.add_journeys.Given as goal

-- the lines of the journeys so far were added
abbrev pub invariant-loop-journey : goal.invariant-loop-journey
invariant-loop-journey l =
    l.lines.items ≡ l.initial.lines.items ++ map (Journey l.day) (take l.journey-index l.journeys)
