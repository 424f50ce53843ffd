use Rattle.std.proofs.Common.{◌≡◌, ◌+◌, map, sum_by, drop}
use Rattle.card_statement.specs.Day.{content_of_day, pence_charged}
use Rattle.card_statement.proofs.making.charged.Given as goal

-- the sum so far and that of the days that are left are the sum of all
abbrev pub invariant-loop-day : goal.invariant-loop-day
invariant-loop-day l = record {
  all : l.sum + sum_by pence_charged (map content_of_day (drop l.day-index l.days))
      ≡ sum_by pence_charged (map content_of_day l.days);
}
