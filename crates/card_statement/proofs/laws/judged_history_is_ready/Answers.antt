use Rattle.card_statement.proofs.KnownLemmas.{history-ready}
use Rattle.card_statement.proofs.laws.judged_history_is_ready.Goals as goal

pub returns : goal.returns
returns c = history-ready
