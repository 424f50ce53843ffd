use Rattle.door_clerk.proofs.DoorLemmas.{second}
use Rattle.door_clerk.proofs.laws.a_second_is_enough.Goals as goal

pub returns : goal.returns
returns c = second
