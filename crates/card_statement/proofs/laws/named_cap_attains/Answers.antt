use Rattle.card_statement.proofs.NamedCapLemmas.{cap-attains}
use Rattle.card_statement.proofs.laws.named_cap_attains.Goals as goal

pub returns : goal.returns
returns c = cap-attains
