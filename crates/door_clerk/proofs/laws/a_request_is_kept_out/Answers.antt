use Rattle.door_clerk.proofs.DoorLemmas.{kept}
use Rattle.door_clerk.proofs.laws.a_request_is_kept_out.Goals as goal

pub returns : goal.returns
returns g c = λ round terms. kept g.C.Clerk.gives (g.S.Surroundings.shows round) (g.S.Surroundings.stands round) terms
