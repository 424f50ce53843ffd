use Rattle.std.proofs.Common.{◌≡◌, ◌+◌, drop}
use Rattle.card_statement.specs.Incomplete.{incomplete_day}
use Rattle.card_statement.specs.Runs.{run_length}
use Rattle.card_statement.proofs.runs.incompletes_on.Given as goal

-- those so far are of the day
abbrev pub invariant-loop-incomplete : goal.invariant-loop-incomplete
invariant-loop-incomplete l = record {
  so_far : l.count ≡ l.incomplete-index;
  run : run_length incomplete_day l.day l.incompletes
      ≡ l.count + run_length incomplete_day l.day (drop l.incomplete-index l.incompletes);
}
