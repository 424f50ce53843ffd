use Rattle.gate_law.proofs.WholeLemmas.{all_agree}
use Rattle.gate_law.proofs.laws_of_all.every_gate_agrees.Goals as goal

pub returns : goal.returns
returns c = all_agree
