use Rattle.gate_law.proofs.GateLemmas.{hears}
use Rattle.gate_law.proofs.laws_of_calls.hearing_is_a_step.Goals as goal

pub returns : goal.returns
returns g c = hears c.args.old.now c.args.new.now
