use Rattle.station_door.proofs.PlacesLemmas.{free-again}
use Rattle.station_door.proofs.laws.a_place_is_free_again.Goals as goal

pub returns : goal.returns
returns c = free-again
