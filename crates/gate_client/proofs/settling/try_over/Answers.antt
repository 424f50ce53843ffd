use Rattle.std.proofs.Common.{◌≡◌, Some, Ok, Err, sym, ap, ◌∙◌, subst}
use Rattle.std.proofs.lemmas.Result.{err_from_is_err_and}
use Rattle.gate_client.specs.Tries.{IsTriedOver}
use Rattle.gate_client.proofs.TryLemmas.{tried-over}
use Rattle.gate_client.proofs.settling.try_over.Goals as goal

-- the line that was handed in is the one over which the reply came
pub returns-clause-settled : goal.returns-clause-settled
returns-clause-settled g c t waits = (c.in-Some.line, c.in-Some.is, c.in_ok-reply.ensures.settled t waits)

-- what the try says of that line
pub returns-clause-tried : goal.returns-clause-tried
returns-clause-tried g c t waits =
    let by = c.in_ok-reply.ensures in
    subst (λ line. IsTriedOver g.R.Read.remaining g.W.Write.contents t line
    (Ok (c.in_ok-reply.reply, record { reader = c.exchange.new.reader; writer = c.exchange.new.writer })))
    (sym c.in-Some.is)
    (tried-over g.R.Read.remaining g.W.Write.contents t c.in-Some.line
    (record { reader = c.exchange.new.reader; writer = c.exchange.new.writer }) (Ok c.in_ok-reply.reply)
    (by.sent t waits) (by.settled t waits) (λ code. by.refused t code waits) (by.stray t waits) by.cut)

pub returns-in_err-reply-clause-tried : goal.returns-in_err-reply-clause-tried
returns-in_err-reply-clause-tried g c t waits =
    let by = c.in_err-reply.ensures in
    let p = err_from_is_err_and c.from_residual.result c.from_residual.ensures.1 in
    let is : c.from_residual.result ≡ Err c.in_err-reply.field-0.0 = p.1 ∙ ap (λ fault. Err fault) p.2 in
    let over_it = tried-over g.R.Read.remaining g.W.Write.contents t c.in-Some.line
    (record { reader = c.exchange.new.reader; writer = c.exchange.new.writer }) (Err c.in_err-reply.field-0.0)
    (by.sent t waits) (by.settled t waits) (λ code. by.refused t code waits) (by.stray t waits) by.cut in
    subst (λ line. IsTriedOver g.R.Read.remaining g.W.Write.contents t line c.from_residual.result) (sym c.in-Some.is)
    (subst (λ outcome. IsTriedOver g.R.Read.remaining g.W.Write.contents t (Some c.in-Some.line) outcome) (sym is)
    over_it)
