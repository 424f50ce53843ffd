use Rattle.std.proofs.Common.{◌≡◌, false}
use Rattle.gate_client.specs.Client.{IsOpened, is_stopped}
use Rattle.gate_law.proofs.ClientLemmas.{when_ok, if_ok_is}
use Rattle.gate_law.proofs.ClientRunLemmas.{opened-run}
use Rattle.gate_law.proofs.client_steps.open_in_steps.Goals as goal

pub returns : goal.returns
returns g c alone cards capacity whole file =
    let content = g.D.Disk.content c.args.disk in
    if_ok_is c.open.result (λ client is honest.
    opened-run alone cards c.args.gate whole client capacity content file
    (when_ok (IsOpened c.args.gate content) c.open.result c.open.ensures.ok client is)
    (when_ok (λ x. is_stopped x ≡ false) c.open.result c.open.ensures.going client is) honest)
