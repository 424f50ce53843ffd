-- Which fault of a command a refused fare table is (FAULTS.md, "Faults"; this project's
-- choice).
use Rattle.fare_table.specs.declared.fault.TableFault.{TableFault}
use Rattle.fare_table.specs.declared.fault.TableFault.TheVariants as tables
use Rattle.text_io.specs.declared.fault.RunFault.TheVariants as runs
use Rattle.console.specs.Detail.{no_detail}
use Rattle.console.specs.declared.fault.TrialFault.{TrialFault}
use Rattle.console.specs.declared.fault.TrialFault.TheVariants.{Run, Table}

-- a table that was refused for want of memory says nothing of the table: the run failed
abbrev pub trial_fault : TableFault → TrialFault
trial_fault tables.Memory = Run runs.Memory
trial_fault fault = Table fault no_detail
