use Rattle.station_calls.proofs.ReachedLemmas.{begins, starts}
use Rattle.station_calls.proofs.laws.new_ones_begin.Goals as goal

pub returns-clause-reached : goal.returns-clause-reached
returns-clause-reached g c alone number = begins alone number c.args.client.now c.args.opening.now

pub returns-clause-starts : goal.returns-clause-starts
returns-clause-starts g c alone = starts alone c.args.opening.now
