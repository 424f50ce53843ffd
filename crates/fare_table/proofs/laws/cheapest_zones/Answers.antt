use Rattle.fare_table.proofs.ChosenLemmas.{cheapest-chosen}
use Rattle.fare_table.proofs.laws.cheapest_zones.Goals as goal

pub returns : goal.returns
returns c = cheapest-chosen
