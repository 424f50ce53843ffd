use Rattle.std.proofs.Common.{◌≡◌, ◌≤◌, ◌*◌, ◌^◌, map, drop, length}
use Rattle.oyster_account.specs.Charge.{capped, least, day_charge}
use Rattle.card_statement.proofs.named_cap.day_charge.Given as goal

-- the least so far and of the caps that are left is the charge
abbrev pub invariant-loop-cap : goal.invariant-loop-cap
invariant-loop-cap l = record {
  least : least l.least (map (capped l.journeys) (drop l.cap-index l.caps)) ≡ day_charge l.caps l.journeys;
  limit : l.least ≤ 2 ^ 32 * length l.journeys;
}
