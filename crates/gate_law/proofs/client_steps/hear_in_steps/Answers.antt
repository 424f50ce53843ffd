use Rattle.std.proofs.Common.{◌≡◌}
use Rattle.gate_client.specs.Client.{answered}
use Rattle.gate_law.proofs.ClientLemmas.{when_on, when_err}
use Rattle.gate_law.proofs.ClientRunLemmas.{hears-run}
use Rattle.gate_law.proofs.client_steps.hear_in_steps.Goals as goal

pub returns : goal.returns
returns g c alone cards number whole t shown waits line =
    let old = c.args.client.now in
    let new = c.hear.new.self in
    hears-run alone cards number whole old new t c.hear.result shown waits
    (c.hear.ensures.asked (whole.gates number).file shown.asked)
    (when_on (new ≡ answered old) c.hear.result c.hear.ensures.answered)
    (when_err (new ≡ old) c.hear.result c.hear.ensures.kept) line
