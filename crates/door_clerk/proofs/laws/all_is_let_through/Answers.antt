use Rattle.door_clerk.proofs.DoorLemmas.{through-all}
use Rattle.door_clerk.proofs.laws.all_is_let_through.Goals as goal

pub returns : goal.returns
returns g c = λ round terms old new requests answers all.
    through-all g.C.Clerk.gives (g.S.Surroundings.shows round) (g.S.Surroundings.stands round) terms all requests
    answers old new
