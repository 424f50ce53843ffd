use Rattle.gate_law.proofs.GivenUpLemmas.{for_good}
use Rattle.gate_law.proofs.laws.a_gate_leaves_what_it_gave_up.Goals as goal

pub returns : goal.returns
returns c = for_good
