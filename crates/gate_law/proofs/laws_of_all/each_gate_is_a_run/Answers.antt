use Rattle.gate_law.proofs.WholeLemmas.{each_is_a_run}
use Rattle.gate_law.proofs.laws_of_all.each_gate_is_a_run.Goals as goal

pub returns : goal.returns
returns c = each_is_a_run
