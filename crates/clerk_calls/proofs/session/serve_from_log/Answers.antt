use Rattle.std.proofs.Common.{inl}
use Rattle.office_lines.specs.Clerk.{clerk_at}
use Rattle.clerk_calls.proofs.OfficeLemmas.{office-session}
use Rattle.clerk_calls.proofs.DeskLemmas.{office-said}
use Rattle.clerk_calls.proofs.session.serve_from_log.Goals as goal

-- what `serve` promises of the session, the run that it is, and what it leaves at the desk
pub returns-clause-session : goal.returns-clause-session
returns-clause-session g c =
    let run = c.serve.ensures.session in
    record {
      bytes = run.bytes;
      text = run.text;
      consumed = run.consumed;
      appended = run.appended;
      says = (
        run.says,
        office-session c.args.clerk.now c.serve.new.clerk c.args.turns c.serve.result run.bytes run.text run.says
            (λ k. clerk_at k.seat.now k.desk.now) g.N.Named.opened
            (λ before after request answer given. (given.2, given.3)),
        office-said c.args.clerk.now c.serve.new.clerk c.args.turns c.serve.result run.bytes run.text run.says
            (λ k. clerk_at k.seat.now k.desk.now) g.N.Named.opened
            (λ before after request answer given. inl (given.2, given.3)),
      );
    }
