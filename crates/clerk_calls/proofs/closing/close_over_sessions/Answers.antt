use Rattle.clerk_calls.specs.Closed.{AreOfOneLog, AreInOneOrder}
use Rattle.clerk_calls.proofs.ClosingLemmas.{closed-by, one-log-of-all, one-order}
use Rattle.clerk_calls.proofs.closing.close_over_sessions.Goals as goal

-- the history of a closed office is a log of each desk's sessions
pub returns-clause-one_log : goal.returns-clause-one_log
returns-clause-one_log g c =
    let opened = g.N.Named.opened in
    closed-by opened c.args.desks.now (λ closed. closed.book) _ _
    (λ closed end. record { tables = end.tables; stands = end.legal; cards = end.cards; begins = end.begins })
    (λ book. AreOfOneLog opened book c.args.desks.now)
    (λ book is grown. one-log-of-all opened book is c.args.desks.now grown) c.close.result c.close.ensures.learnt
    c.close.ensures.rest

-- and orders what they answered
pub returns-clause-one_order : goal.returns-clause-one_order
returns-clause-one_order g c =
    let opened = g.N.Named.opened in
    closed-by opened c.args.desks.now (λ closed. closed.book) _ _
    (λ closed end. record { tables = end.tables; stands = end.legal; cards = end.cards; begins = end.begins })
    (λ book. AreInOneOrder opened book c.args.desks.now)
    (λ book is grown. one-order opened book is c.args.desks.now grown) c.close.result c.close.ensures.learnt
    c.close.ensures.rest
