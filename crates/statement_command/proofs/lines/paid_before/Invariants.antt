use Rattle.std.proofs.Common.{◌≡◌, ◌≤◌, ◌+◌, sum_by, drop}
use Rattle.card_statement.specs.Statement.{pence_in_row}
use Rattle.statement_command.specs.Lines.{paid_before}
use Rattle.statement_command.proofs.lines.paid_before.Given as goal

-- the sum so far and that of the top-ups that are left are the sum of all, and within that of all
-- top-ups
abbrev pub invariant-loop-top_up : goal.invariant-loop-top_up
invariant-loop-top_up l = record {
  all : l.sum + paid_before l.days (drop l.top_up-index l.top_ups) ≡ paid_before l.days l.top_ups;
  limit : l.sum + sum_by pence_in_row (drop l.top_up-index l.top_ups)
      ≤ sum_by pence_in_row l.top_ups;
}
