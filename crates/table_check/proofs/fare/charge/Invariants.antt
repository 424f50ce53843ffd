use Rattle.std.proofs.Common.{◌≡◌, drop, map}
use Rattle.oyster_account.specs.Charge.{least}
use Rattle.table_check.specs.Fare.{capped_by}
use Rattle.table_check.proofs.fare.charge.Given as goal

-- the least so far and of the caps that are left is the least of all
abbrev pub invariant-loop-cap : goal.invariant-loop-cap
invariant-loop-cap l =
    least l.least (map (capped_by l.fare) (drop l.cap-index l.caps)) ≡ least l.fare.pence
    (map (capped_by l.fare) l.caps)
