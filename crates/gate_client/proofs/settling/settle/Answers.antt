use Rattle.std.proofs.Common.{◌≡◌, ◌<◌, None, Some, Ok, Err, ap, ◌∙◌, sym, subst, arith, refl}
use Rattle.gate_client.specs.Client.{waits_of}
use Rattle.gate_client.specs.Tries.{ends_with}
use Rattle.gate_client.proofs.SettlingLemmas.{begun_by}
use Rattle.gate_client.proofs.TryLemmas.{IsTrying, none-of, tried-more, tried-end, tries-none}
use Rattle.gate_client.proofs.settling.settle.Goals as goal

-- the line of the last try was the one at hand, or was made
pub returns-in-Ok-clause-settled : goal.returns-in-Ok-clause-settled
returns-in-Ok-clause-settled g c t waits =
    let here : waits_of c.loop.client ≡ Some t = ap (λ client. waits_of client) c.loop.invariant.same ∙ waits in
    let done = c.in-Ok.ensures.settled t here in (
      done.0,
      begun_by g.S.Station.made c.loop.ready c.args.line c.line_for-line.result done.0 c.line_for-line.ensures
          c.loop.invariant.ready done.1,
      done.2,
    )

-- a try that doesn't end it is one more
pub loop-preserved : goal.loop-preserved
loop-preserved g c = record {
  same = c.in-Err.ensures.kept ∙ c.loop.invariant.same;
  ready = tt;
  trying = λ t waits.
      let here : waits_of c.loop.client ≡ Some t = ap (λ client. waits_of client) c.loop.invariant.same ∙ waits in
      let none : c.last_fault.result ≡ None = none-of c.last_fault.result c.in_default.not-Some in
      tried-more g.R.Read.remaining g.W.Write.contents g.S.Station.made t c.loop.counter c.args.line c.loop.ready
      c.line_for-line.result (Err c.in-Err.fault) (c.loop.invariant.trying t waits) c.line_for-line.ensures
      (c.in-Err.ensures.tried t here) (ap (λ o. ends_with o) (sym c.last_fault.ensures ∙ none));
}

-- the last try brought the reply
pub returns-in-Ok-clause-tries : goal.returns-in-Ok-clause-tries
returns-in-Ok-clause-tries g c t waits =
    let here : waits_of c.loop.client ≡ Some t = ap (λ client. waits_of client) c.loop.invariant.same ∙ waits in
    let below : c.loop.counter < c.args.tries = omega arith in
    tried-end g.R.Read.remaining g.W.Write.contents g.S.Station.made t c.args.tries c.loop.counter c.args.line
    c.loop.ready c.line_for-line.result (Ok c.in-Ok.done) (Ok c.in-Ok.done) (c.loop.invariant.trying t waits) below
    c.line_for-line.ensures (c.in-Ok.ensures.tried t here) refl

-- or a fault that ends it
pub returns-in-Some-clause-tries : goal.returns-in-Some-clause-tries
returns-in-Some-clause-tries g c t waits =
    let here : waits_of c.loop.client ≡ Some t = ap (λ client. waits_of client) c.loop.invariant.same ∙ waits in
    let below : c.loop.counter < c.args.tries = omega arith in
    tried-end g.R.Read.remaining g.W.Write.contents g.S.Station.made t c.args.tries c.loop.counter c.args.line
    c.loop.ready c.line_for-line.result (Err c.in-Err.fault) (Err c.in-Some.last) (c.loop.invariant.trying t waits)
    below c.line_for-line.ensures (c.in-Err.ensures.tried t here) (ap (λ o. ends_with o) (sym c.in-Some.ensures))

-- the tries were used up
pub returns-clause-tries : goal.returns-clause-tries
returns-clause-tries g c t waits =
    let all : c.loop.counter ≡ c.args.tries = omega arith in
    tries-none g.R.Read.remaining g.W.Write.contents g.S.Station.made t c.args.tries c.args.line c.loop.ready
    (subst (λ n. IsTrying g.R.Read.remaining g.W.Write.contents g.S.Station.made t c.args.line c.loop.ready n) all
    (c.loop.invariant.trying t waits))
