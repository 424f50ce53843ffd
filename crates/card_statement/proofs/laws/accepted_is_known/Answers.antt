use Rattle.card_statement.proofs.KnownLemmas.{accepted-known}
use Rattle.card_statement.proofs.laws.accepted_is_known.Goals as goal

pub returns : goal.returns
returns c = accepted-known
