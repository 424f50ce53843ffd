use Rattle.std.proofs.Common.{◌≡◌, ◌≤◌, ◌+◌, map, sum_by, drop}
use Rattle.card_statement.specs.Day.{content_of_day, pence_charged}
use Rattle.statement_command.specs.Lines.{charged_before}
use Rattle.statement_command.proofs.lines.charged_before.Given as goal

-- the sum so far and that of the days that are left are the sum of all, and within that of all days
abbrev pub invariant-loop-row : goal.invariant-loop-row
invariant-loop-row l = record {
  all : l.sum + charged_before l.days (map content_of_day (drop l.row-index l.rows))
      ≡ charged_before l.days (map content_of_day l.rows);
  limit : l.sum + sum_by pence_charged (map content_of_day (drop l.row-index l.rows))
      ≤ sum_by pence_charged (map content_of_day l.rows);
}
