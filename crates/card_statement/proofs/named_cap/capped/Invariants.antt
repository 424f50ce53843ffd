use Rattle.std.proofs.Common.{◌≡◌, ◌≤◌, ◌+◌, ◌*◌, ◌^◌, sum_by, drop}
use Rattle.oyster_account.specs.Journey.{pence_of}
use Rattle.oyster_account.specs.Charge.{uncovered, capped}
use Rattle.card_statement.proofs.named_cap.capped.Given as goal

-- the sum so far and that of the journeys that are left and not covered are what the cap makes of all
abbrev pub invariant-loop-journey : goal.invariant-loop-journey
invariant-loop-journey l = record {
  all : l.sum + sum_by pence_of (uncovered l.cap (drop l.journey-index l.journeys)) ≡ capped l.journeys l.cap;
  limit : l.sum ≤ 2 ^ 32 * (l.journey-index + 1);
}
