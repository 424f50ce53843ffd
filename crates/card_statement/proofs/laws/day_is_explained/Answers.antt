use Rattle.card_statement.proofs.NamedCapLemmas.{day-explained}
use Rattle.card_statement.proofs.laws.day_is_explained.Goals as goal

pub returns : goal.returns
returns c = day-explained
