use Rattle.door_clerk.proofs.DoorLemmas.{door-sorted}
use Rattle.door_clerk.specs.Rule.{terms_of}
use Rattle.door_clerk.specs.Door.{door_state}
use Rattle.door_clerk.proofs.session.serve_at_door.Goals as goal

-- what `serve` promises of the session, and how its requests were sorted
pub returns-clause-session : goal.returns-clause-session
returns-clause-session g c =
    let run = c.serve.ensures.session in
    record {
      bytes = run.bytes;
      text = run.text;
      consumed = run.consumed;
      appended = run.appended;
      says = (
        run.says,
        door-sorted g.C.Clerk.gives g.S.Surroundings.shows g.S.Surroundings.stands
            (λ d. d.rule) (λ d. d.surroundings) (λ r. terms_of r.now) (λ d. door_state d.bucket d.last d.behind) _
            (λ old new request answer given. given)
            run.says.exchange.handed run.says.exchange.replies c.args.door.now c.serve.new.clerk run.says.is.run,
      );
    }
