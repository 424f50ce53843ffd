use Rattle.gate_law.proofs.WholeWeakerLemmas as runs
use Rattle.gate_law.proofs.WholeFaultLemmas as faults
use Rattle.gate_law.proofs.WholeGivingUpRuns as givings_up
use Rattle.gate_law.proofs.laws_of_all.no_condition_is_idle.Goals as goal

pub returns-clause-weaker : goal.returns-clause-weaker
returns-clause-weaker c = runs.weaker

pub returns-clause-gate_loses : goal.returns-clause-gate_loses
returns-clause-gate_loses c = runs.gate_loses

pub returns-clause-station_loses : goal.returns-clause-station_loses
returns-clause-station_loses c = runs.station_loses

pub returns-clause-unsynced : goal.returns-clause-unsynced
returns-clause-unsynced c = runs.unsynced

pub returns-clause-opens_idle : goal.returns-clause-opens_idle
returns-clause-opens_idle c = runs.opens_idle

pub returns-clause-opens_again : goal.returns-clause-opens_again
returns-clause-opens_again c = givings_up.opens_again

pub returns-clause-another_journal : goal.returns-clause-another_journal
returns-clause-another_journal c = runs.another_journal

pub returns-clause-for_nothing : goal.returns-clause-for_nothing
returns-clause-for_nothing c = faults.for_nothing

pub returns-clause-anything : goal.returns-clause-anything
returns-clause-anything c = faults.anything

pub returns-clause-unwritten : goal.returns-clause-unwritten
returns-clause-unwritten c = faults.unwritten

pub returns-clause-alone : goal.returns-clause-alone
returns-clause-alone c = faults.alone
