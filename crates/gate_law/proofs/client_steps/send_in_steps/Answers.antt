use Rattle.gate_law.proofs.ClientLemmas.{if_ok}
use Rattle.gate_law.proofs.ClientRunLemmas.{sent-run}
use Rattle.gate_law.proofs.client_steps.send_in_steps.Goals as goal

pub returns-clause-steps : goal.returns-clause-steps
returns-clause-steps g c alone cards number whole t shown waits =
    if_ok c.send.result (λ u. sent-run alone cards number whole c.args.client.now t shown waits)
