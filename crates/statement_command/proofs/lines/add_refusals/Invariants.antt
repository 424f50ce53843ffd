use Rattle.std.proofs.Common.{◌≡◌, ◌++◌, take, flat_map}
use Rattle.statement_command.specs.Lines.{refusal_back}
use Rattle.statement_command.proofs.lines.add_refusals.Given as goal

-- the lines of the refused touches so far were added
abbrev pub invariant-loop-refusal : goal.invariant-loop-refusal
invariant-loop-refusal l =
    l.lines.items ≡ l.initial.lines.items
    ++ flat_map (refusal_back l.days) (take l.refusal-index l.refusals)
