use Rattle.std.proofs.Common.{◌≡◌, subst}
use Rattle.gate_client.specs.Client.{answered}
use Rattle.gate_client.proofs.TryLemmas.{has-read, settled-read, sent-reached}
use Rattle.gate_law.specs.ClientRuns.{told_of, refused_of}
use Rattle.gate_law.specs.Among.{heard_by, IsRunAmong}
use Rattle.gate_law.proofs.ClientLemmas.{when_on, when_err}
use Rattle.gate_law.proofs.TryAmongLemmas.{settled-client, try-among}
use Rattle.gate_law.proofs.among.exchange_among_others.Goals as goal

-- what it read, by its result
pub returns-clause-read : goal.returns-clause-read
returns-clause-read g c t waits =
    let by = c.exchange.ensures in
    let result = c.exchange.result in
    let unread = g.R.Read.remaining c.args.reader.now in
    let left = g.R.Read.remaining c.exchange.new.reader in
    let written = g.W.Write.contents c.args.writer.now in
    let after = g.W.Write.contents c.exchange.new.writer in
    has-read t unread left result (settled-read t unread left written after result (by.settled t waits))
    (λ code. by.refused t code waits) (by.stray t waits) (sent-reached t written after result (by.sent t waits))

-- it is steps of its gate
pub returns-clause-steps : goal.returns-clause-steps
returns-clause-steps g c alone cards number t first last shown waits among =
    let old = c.args.client.now in
    let new = c.exchange.new.client in
    let result = c.exchange.result in
    subst (λ client. IsRunAmong alone cards number first last client (told_of t (heard_by result))
    (refused_of t (heard_by result)))
    (settled-client old new result (when_on (new ≡ answered old) result c.exchange.ensures.answered)
    (when_err (new ≡ old) result c.exchange.ensures.kept))
    (try-among alone cards number t result first last old shown waits among)
