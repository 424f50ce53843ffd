use Rattle.oyster_account.proofs.LawLemmas.{tables-priced}
use Rattle.oyster_account.proofs.laws.tables_are_priced.Goals as goal

pub returns : goal.returns
returns c = tables-priced
