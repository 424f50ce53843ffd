use Rattle.gate_law.proofs.GateLemmas.{gives_up}
use Rattle.gate_law.proofs.laws_of_calls.giving_up_is_a_step.Goals as goal

pub returns : goal.returns
returns g c = gives_up c.args.old.now c.args.new.now
