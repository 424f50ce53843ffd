use Rattle.gate_law.proofs.SessionLemmas.{session}
use Rattle.gate_law.proofs.laws_of_calls.sessions_are_runs.Goals as goal

pub returns : goal.returns
returns g c = session g.C.Clerk.gives
