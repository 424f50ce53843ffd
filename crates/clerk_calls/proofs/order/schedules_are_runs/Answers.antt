use Rattle.clerk_calls.proofs.ScheduleLemmas.{schedules-run, server-agrees}
use Rattle.clerk_calls.proofs.order.schedules_are_runs.Goals as goal

pub returns-clause-runs : goal.returns-clause-runs
returns-clause-runs c = schedules-run

pub returns-clause-agree : goal.returns-clause-agree
returns-clause-agree c = server-agrees
