use Rattle.office_lines.specs.Clerk.{clerk_at}
use Rattle.office_lines.specs.declared.sessions.TheConstants.{TURNS}
use Rattle.office_lines.proofs.PostLemmas.{given-goes_on, session-goes_on, run-keeps, requests_few}
use Rattle.office_lines.proofs.sessions.serve_clerk.Goals as goal

-- each answer keeps the seat, and so does the session
pub returns-clause-same_seat : goal.returns-clause-same_seat
returns-clause-same_seat g c =
    let session = c.serve.ensures.session.says in
    run-keeps _ (λ clerk. clerk.seat.ghost_name) (λ x y request answer given. given.0) _ _ session.exchange.handed
    session.exchange.replies session.is.run

-- and the desk
pub returns-clause-same_desk : goal.returns-clause-same_desk
returns-clause-same_desk g c =
    let session = c.serve.ensures.session.says in
    run-keeps _ (λ clerk. clerk.desk.ghost_name) (λ x y request answer given. given.1) _ _ session.exchange.handed
    session.exchange.replies session.is.run

-- each answer has the seat go on, and so has the session
pub returns-clause-seat : goal.returns-clause-seat
returns-clause-seat g c =
    (session-goes_on _ (λ clerk. clerk_at clerk.seat.now clerk.desk.now)
    (λ x y request answer given. given-goes_on g.N.Named.opened (clerk_at x.seat.now x.desk.now)
    (clerk_at y.seat.now y.desk.now) request answer given.2) _ _ TURNS c.serve.result _ _
    c.serve.ensures.session.says).seat

-- and the desk
pub returns-clause-desk : goal.returns-clause-desk
returns-clause-desk g c =
    (session-goes_on _ (λ clerk. clerk_at clerk.seat.now clerk.desk.now)
    (λ x y request answer given. given-goes_on g.N.Named.opened (clerk_at x.seat.now x.desk.now)
    (clerk_at y.seat.now y.desk.now) request answer given.2) _ _ TURNS c.serve.result _ _
    c.serve.ensures.session.says).desk

pub returns-clause-few : goal.returns-clause-few
returns-clause-few g c = requests_few _ _ _ TURNS c.serve.result _ _ c.serve.ensures.session.says
