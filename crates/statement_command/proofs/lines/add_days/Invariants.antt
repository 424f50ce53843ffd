use Rattle.std.proofs.Common.{◌≡◌, ◌≤◌, ◌++◌, map, sum_by, drop}
use Rattle.card_statement.specs.Day.{content_of_day, pence_charged}
use Rattle.statement_command.specs.Lines.{days_back}
use Rattle.statement_command.proofs.lines.add_days.Given as goal

-- the lines so far and those of the days that are left are the lines of all, and the days that are
-- left charge no more than all do
abbrev pub invariant-loop-row : goal.invariant-loop-row
invariant-loop-row l = record {
  all : l.lines.items ++ days_back l.days (map content_of_day (drop l.row-index l.rows))
      ≡ l.initial.lines.items ++ days_back l.days (map content_of_day l.rows);
  limit : sum_by pence_charged (map content_of_day (drop l.row-index l.rows))
      ≤ sum_by pence_charged (map content_of_day l.rows);
}
