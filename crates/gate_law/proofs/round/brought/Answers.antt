use Rattle.gate_law.proofs.SettledLemmas.{begins_take}
use Rattle.gate_law.proofs.round.brought.Goals as goal

pub returns : goal.returns
returns c = begins_take c.min.result c.args.bytes.now
