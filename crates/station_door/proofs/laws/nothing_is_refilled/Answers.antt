use Rattle.station_door.proofs.PlacesLemmas.{left-is-most, had-is-most}
use Rattle.station_door.proofs.laws.nothing_is_refilled.Goals as goal

pub returns : goal.returns
returns c = record { left = left-is-most; had = had-is-most }
