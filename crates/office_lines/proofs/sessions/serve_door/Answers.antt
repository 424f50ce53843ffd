use Rattle.std.proofs.Common.{inl, inr, ap, sym, subst}
use Rattle.office_lines.specs.Behind.{HasAnsweredSome}
use Rattle.office_lines.specs.declared.sessions.TheConstants.{TURNS}
use Rattle.office_lines.proofs.BehindLemmas.{run-answers}
use Rattle.office_lines.proofs.PostLemmas.{run-keeps, requests_few}
use Rattle.office_lines.proofs.sessions.serve_door.Goals as goal

-- the door keeps the lent clerk at each request, and so does the session
pub returns-clause-same : goal.returns-clause-same
returns-clause-same g c =
    let session = c.serve.ensures.session.says in
    run-keeps _ (λ w. w.door.behind.clerk.ghost_name)
    (λ x y request answer does. elim (does.2) [
      | inl (after, passed, through) ↦ through.given.0
      | inr (refusal, stopped, out) ↦ ap (λ k. k.clerk.ghost_name) out.clerk
    ]) _ _ session.exchange.handed session.exchange.replies session.is.run

-- each request is given to the lent clerk, or leaves it as it was
pub returns-clause-run : goal.returns-clause-run
returns-clause-run g c =
    let session = c.serve.ensures.session.says in
    subst (λ n. HasAnsweredSome g.C.Clerk.gives c.args.door.now.door.behind.clerk.now
    c.serve.new.clerk.door.behind.clerk.now n) (sym session.requests)
    (run-answers _ g.C.Clerk.gives (λ w. w.door.behind.clerk.now)
    (λ x y request answer does. elim (does.2) [
      | inl (after, passed, through) ↦ inl through.given.1
      | inr (refusal, stopped, out) ↦ inr (ap (λ k. k.clerk.now) out.clerk)
    ]) _ _ session.exchange.handed session.exchange.replies session.is.run)

pub returns-clause-few : goal.returns-clause-few
returns-clause-few g c = requests_few _ _ _ TURNS c.serve.result _ _ c.serve.ensures.session.says
