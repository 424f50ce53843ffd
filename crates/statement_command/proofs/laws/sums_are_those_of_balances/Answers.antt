use Rattle.statement_command.proofs.LawLemmas.{sums-of-balances}
use Rattle.statement_command.proofs.laws.sums_are_those_of_balances.Goals as goal

pub returns : goal.returns
returns c = sums-of-balances
