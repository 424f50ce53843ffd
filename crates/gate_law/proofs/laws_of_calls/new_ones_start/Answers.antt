use Rattle.gate_law.specs.Station.{station_of}
use Rattle.gate_law.proofs.StartLemmas.{starts}
use Rattle.gate_law.proofs.laws_of_calls.new_ones_start.Goals as goal

pub returns : goal.returns
returns g c = starts c.args.client.now (station_of c.args.clerk.now) c.learn.ensures.legal
