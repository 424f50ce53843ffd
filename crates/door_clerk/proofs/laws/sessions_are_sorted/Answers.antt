use Rattle.door_clerk.proofs.DoorLemmas.{sorted}
use Rattle.door_clerk.proofs.laws.sessions_are_sorted.Goals as goal

pub returns : goal.returns
returns g c = λ round terms old new requests answers.
    sorted g.C.Clerk.gives (g.S.Surroundings.shows round) (g.S.Surroundings.stands round) terms requests answers old new
