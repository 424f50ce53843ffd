use Rattle.std.proofs.Common.{◌≡◌, take}
use Rattle.statement_command.specs.Csv.{csv_text}
use Rattle.statement_command.proofs.printing.csv_of.Given as goal

-- the text has the rows of the lines so far
abbrev pub invariant-loop-line : goal.invariant-loop-line
invariant-loop-line l = l.out.text.items ≡ csv_text (take l.line-index l.lines)
