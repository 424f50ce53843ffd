use Rattle.std.proofs.Common.{◌≡◌, ◌+◌, drop}
use Rattle.oyster_account.specs.Journey.{journey_day}
use Rattle.card_statement.specs.Runs.{run_length}
use Rattle.card_statement.proofs.runs.journeys_on.Given as goal

-- those so far are of the day
abbrev pub invariant-loop-journey : goal.invariant-loop-journey
invariant-loop-journey l = record {
  so_far : l.count ≡ l.journey-index;
  run : run_length journey_day l.day l.journeys
      ≡ l.count + run_length journey_day l.day (drop l.journey-index l.journeys);
}
