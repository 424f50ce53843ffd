use Rattle.card_statement.proofs.StatementLemmas.{statement-balance}
use Rattle.card_statement.proofs.laws.statement_balances.Goals as goal

pub returns : goal.returns
returns c = statement-balance
