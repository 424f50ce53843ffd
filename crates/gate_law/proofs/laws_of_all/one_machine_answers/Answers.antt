use Rattle.gate_law.proofs.MachineLemmas.{each_step_atomic, each_run_of_machine}
use Rattle.gate_law.proofs.laws_of_all.one_machine_answers.Goals as goal

pub returns-clause-atomic : goal.returns-clause-atomic
returns-clause-atomic c = each_step_atomic

pub returns-clause-runs : goal.returns-clause-runs
returns-clause-runs c = each_run_of_machine
