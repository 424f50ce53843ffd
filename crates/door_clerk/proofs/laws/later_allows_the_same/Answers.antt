use Rattle.door_clerk.proofs.DoorLemmas.{later, repeats}
use Rattle.door_clerk.proofs.laws.later_allows_the_same.Goals as goal

pub returns : goal.returns
returns c = record { later = later; repeats = repeats }
