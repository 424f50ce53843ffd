use Rattle.std.proofs.Common.{◌≡◌, drop}
use Rattle.card_statement.specs.NamedCap.{attaining_cap}
use Rattle.std.specs.Prelude.{◌==◌}
use Rattle.std.specs.List.{find}
use Rattle.oyster_account.specs.Charge.{capped}
use Rattle.card_statement.proofs.named_cap.applied_cap.Given as goal

-- the first that attains the charge is among the caps that are left
abbrev pub invariant-loop-cap : goal.invariant-loop-cap
invariant-loop-cap l = record {
  left : find (λ cap. capped l.journeys cap == l.charge) (drop l.cap-index l.caps)
      ≡ attaining_cap l.caps l.journeys;
}
