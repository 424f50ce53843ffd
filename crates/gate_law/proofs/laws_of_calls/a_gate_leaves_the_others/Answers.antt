use Rattle.gate_law.proofs.ClientLemmas.{others-shown}
use Rattle.gate_law.proofs.laws_of_calls.a_gate_leaves_the_others.Goals as goal

pub returns : goal.returns
returns g c number other whole gate more = others-shown number other whole gate more c.args.client.now
