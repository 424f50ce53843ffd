use Rattle.oyster_account.proofs.LawLemmas.{legs-take_nothing}
use Rattle.oyster_account.proofs.laws.legs_take_nothing.Goals as goal

pub returns : goal.returns
returns c = legs-take_nothing
