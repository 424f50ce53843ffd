use Rattle.door_file.proofs.DoorLemmas.{means-none, none-means, means-same}
use Rattle.door_file.proofs.laws.door_texts.Goals as goal

pub returns-clause-faultless : goal.returns-clause-faultless
returns-clause-faultless c = means-none

pub returns-clause-meaning : goal.returns-clause-meaning
returns-clause-meaning c = none-means

pub returns-clause-one : goal.returns-clause-one
returns-clause-one c = means-same
