use Rattle.gate_law.proofs.WeakerLemmas as runs
use Rattle.gate_law.proofs.OtherLemmas as others
use Rattle.gate_law.proofs.GivingUpRuns as givings_up
use Rattle.gate_law.proofs.PremiseLemmas as premises
use Rattle.gate_law.proofs.TablesLemmas.{same_tables}
use Rattle.gate_law.proofs.laws.none_is_idle.Goals as goal

pub returns-clause-out_of_turn : goal.returns-clause-out_of_turn
returns-clause-out_of_turn c = runs.out_of_turn

pub returns-clause-any_number : goal.returns-clause-any_number
returns-clause-any_number c = runs.any_number

pub returns-clause-opens_idle : goal.returns-clause-opens_idle
returns-clause-opens_idle c = runs.opens_idle

pub returns-clause-gives_up_again : goal.returns-clause-gives_up_again
returns-clause-gives_up_again c = givings_up.gives_up_again

pub returns-clause-gives_up_another : goal.returns-clause-gives_up_another
returns-clause-gives_up_another c = givings_up.gives_up_another

pub returns-clause-opens_again : goal.returns-clause-opens_again
returns-clause-opens_again c = givings_up.opens_again

pub returns-clause-another_number : goal.returns-clause-another_number
returns-clause-another_number c = runs.another_number

pub returns-clause-line_to_station : goal.returns-clause-line_to_station
returns-clause-line_to_station c = premises.line_to_station

pub returns-clause-line_to_gate : goal.returns-clause-line_to_gate
returns-clause-line_to_gate c = premises.line_to_gate

pub returns-clause-alone : goal.returns-clause-alone
returns-clause-alone c = premises.alone

pub returns-clause-gates_journal : goal.returns-clause-gates_journal
returns-clause-gates_journal c = premises.gates_journal

pub returns-clause-stations_journal : goal.returns-clause-stations_journal
returns-clause-stations_journal c = premises.stations_journal

pub returns-clause-lock : goal.returns-clause-lock
returns-clause-lock c = premises.lock

pub returns-clause-same_tables : goal.returns-clause-same_tables
returns-clause-same_tables c = same_tables

pub returns-clause-weaker : goal.returns-clause-weaker
returns-clause-weaker c = runs.weaker

pub returns-clause-for_another : goal.returns-clause-for_another
returns-clause-for_another c = others.for_another

pub returns-clause-another_gate : goal.returns-clause-another_gate
returns-clause-another_gate c = others.another_gate

pub returns-clause-unasked : goal.returns-clause-unasked
returns-clause-unasked c = others.unasked
