use Rattle.std.proofs.Common.{◌≡◌, ◌++◌, take, flat_map}
use Rattle.statement_command.specs.Lines.{top_up_back}
use Rattle.statement_command.proofs.lines.add_top_ups.Given as goal

-- the lines of the top-ups so far were added
abbrev pub invariant-loop-top_up : goal.invariant-loop-top_up
invariant-loop-top_up l =
    l.lines.items ≡ l.initial.lines.items
    ++ flat_map (top_up_back l.days) (take l.top_up-index l.top_ups)
