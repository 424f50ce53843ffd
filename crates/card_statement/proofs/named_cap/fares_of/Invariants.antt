use Rattle.std.proofs.Common.{◌≡◌, ◌≤◌, ◌+◌, ◌*◌, ◌^◌, sum_by, drop}
use Rattle.oyster_account.specs.Journey.{pence_of}
use Rattle.card_statement.proofs.named_cap.fares_of.Given as goal

-- the sum so far and that of the journeys that are left are the sum of all
abbrev pub invariant-loop-journey : goal.invariant-loop-journey
invariant-loop-journey l = record {
  all : l.sum + sum_by pence_of (drop l.journey-index l.journeys) ≡ sum_by pence_of l.journeys;
  limit : l.sum ≤ 2 ^ 32 * l.journey-index;
}
