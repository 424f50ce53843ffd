use Rattle.gate_law.proofs.GateLemmas.{asks}
use Rattle.gate_law.proofs.laws_of_calls.asking_is_a_step.Goals as goal

pub returns : goal.returns
returns g c = asks c.args.old.now c.args.new.now
