use Rattle.gate_law.proofs.WholeGivenUpLemmas.{each_for_good}
use Rattle.gate_law.proofs.laws_of_all.gates_leave_what_they_gave_up.Goals as goal

pub returns : goal.returns
returns c = each_for_good
