use Rattle.gate_law.proofs.ClientLemmas.{blank-shown}
use Rattle.gate_law.proofs.laws_of_calls.new_clients_are_blank.Goals as goal

pub returns : goal.returns
returns g c number = blank-shown number c.args.client.now
