use Rattle.std.proofs.Common.{◌≡◌, ◌≤◌, ◌+◌, ◌*◌, ◌^◌, sum_by, drop}
use Rattle.card_statement.specs.Incomplete.{pence_missing}
use Rattle.card_statement.proofs.day_row.missing_of.Given as goal

-- the sum so far and that of the touches that are left are the sum of all
abbrev pub invariant-loop-incomplete : goal.invariant-loop-incomplete
invariant-loop-incomplete l = record {
  all : l.sum + sum_by pence_missing (drop l.incomplete-index l.incompletes) ≡ sum_by pence_missing l.incompletes;
  limit : l.sum ≤ 2 ^ 32 * l.incomplete-index;
}
