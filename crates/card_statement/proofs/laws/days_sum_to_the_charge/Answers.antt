use Rattle.card_statement.proofs.StatementLemmas.{days-sum}
use Rattle.card_statement.proofs.laws.days_sum_to_the_charge.Goals as goal

pub returns : goal.returns
returns c = days-sum
