use Rattle.door_clerk.proofs.DoorLemmas.{rate-kept}
use Rattle.door_clerk.proofs.laws.the_rate_is_kept.Goals as goal

pub returns : goal.returns
returns g c = λ round terms rate before after requests through answers replies is_rate.
    rate-kept (g.S.Surroundings.shows round) (g.S.Surroundings.stands round) terms rate is_rate requests answers through
    replies before after
