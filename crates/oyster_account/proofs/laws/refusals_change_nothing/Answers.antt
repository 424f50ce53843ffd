use Rattle.oyster_account.proofs.LawLemmas.{refusals-change_nothing}
use Rattle.oyster_account.proofs.laws.refusals_change_nothing.Goals as goal

pub returns : goal.returns
returns c = refusals-change_nothing
