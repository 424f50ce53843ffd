use Rattle.gate_law.proofs.GateLemmas.{sends, sends-part}
use Rattle.gate_law.proofs.laws_of_calls.sending_is_a_step.Goals as goal

pub returns-clause-whole : goal.returns-clause-whole
returns-clause-whole g c = sends c.args.client.now

pub returns-clause-part : goal.returns-clause-part
returns-clause-part g c = sends-part c.args.client.now
