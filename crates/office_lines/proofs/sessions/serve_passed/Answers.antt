use Rattle.office_lines.specs.Clerk.{clerk_at}
use Rattle.office_lines.proofs.PostLemmas.{ClerkGoesOn-within, given-goes_on, run-goes_on, run-keeps}
use Rattle.office_lines.proofs.sessions.serve_passed.Goals as goal

-- each answer keeps the seat
pub returns-clause-same_seat : goal.returns-clause-same_seat
returns-clause-same_seat g c =
    let some = c.serve_behind.ensures.run in
    run-keeps _ (λ clerk. clerk.seat.ghost_name) (λ x y request answer given. given.0) _ _ some.through some.replies
    some.run

-- and the desk
pub returns-clause-same_desk : goal.returns-clause-same_desk
returns-clause-same_desk g c =
    let some = c.serve_behind.ensures.run in
    run-keeps _ (λ clerk. clerk.desk.ghost_name) (λ x y request answer given. given.1) _ _ some.through some.replies
    some.run

-- each answer has the seat go on, by no more requests than there were
pub returns-clause-seat : goal.returns-clause-seat
returns-clause-seat g c =
    let some = c.serve_behind.ensures.run in
    (ClerkGoesOn-within _ _ _ _ some.few
    (run-goes_on _ (λ clerk. clerk_at clerk.seat.now clerk.desk.now)
    (λ x y request answer given. given-goes_on g.N.Named.opened (clerk_at x.seat.now x.desk.now)
    (clerk_at y.seat.now y.desk.now) request answer given.2) _ _ some.through some.replies some.run)).seat

-- and the desk
pub returns-clause-desk : goal.returns-clause-desk
returns-clause-desk g c =
    let some = c.serve_behind.ensures.run in
    (ClerkGoesOn-within _ _ _ _ some.few
    (run-goes_on _ (λ clerk. clerk_at clerk.seat.now clerk.desk.now)
    (λ x y request answer given. given-goes_on g.N.Named.opened (clerk_at x.seat.now x.desk.now)
    (clerk_at y.seat.now y.desk.now) request answer given.2) _ _ some.through some.replies some.run)).desk
