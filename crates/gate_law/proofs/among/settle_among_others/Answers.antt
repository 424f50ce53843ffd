use Rattle.std.proofs.Common.{◌≡◌, subst}
use Rattle.gate_client.specs.Client.{answered}
use Rattle.gate_law.specs.Among.{IsRunAmong, told_by, refused_by}
use Rattle.gate_law.proofs.ClientLemmas.{when_on, when_err}
use Rattle.gate_law.proofs.TryAmongLemmas.{settled-client}
use Rattle.gate_law.proofs.AmongLemmas.{results, told-end, refused-end, tries-among}
use Rattle.gate_law.proofs.among.settle_among_others.Goals as goal

-- the tries that it made are steps of its gate
pub returns-clause-steps : goal.returns-clause-steps
returns-clause-steps g c t waits =
    let old = c.args.client.now in
    let new = c.settle.new.client in
    let result = c.settle.result in
    let remaining = g.R.Read.remaining in
    let contents = g.W.Write.contents in
    let made = g.S.Station.made in
    let by = c.settle.ensures.tries t waits in
    let follow = by.1.follow in
    record {
      tried = by.0;
      are = by.1;
      steps = λ alone cards number first last shown among.
          subst (λ client. IsRunAmong alone cards number first last client
          (told_by t (results remaining contents made t c.args.tries by.0))
          (refused_by t (results remaining contents made t c.args.tries by.0)))
          (settled-client old new result (when_on (new ≡ answered old) result c.settle.ensures.answered)
          (when_err (new ≡ old) result c.settle.ensures.kept))
          (tries-among remaining contents made t c.args.tries alone cards number c.args.line by.0 result first last old
          follow shown waits among);
      told = told-end remaining contents made t c.args.tries c.args.line by.0 result follow;
      refused = refused-end remaining contents made t c.args.tries c.args.line by.0 result follow;
    }
