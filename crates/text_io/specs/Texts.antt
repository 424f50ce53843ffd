-- What a fault of a run prints (FAULTS.md, "Faults"; this project's choice).
use Rattle.std.specs.Prelude.{codes, ℕ, List}
use Rattle.text_io.specs.declared.fault.RunFault.{RunFault}
use Rattle.text_io.specs.declared.fault.RunFault.TheVariants.{Memory, Read, Write}

-- the line that standard error gets, without its line feed: the fault's number and name
abbrev pub printed_run_fault : RunFault → List ℕ
printed_run_fault Memory = codes "fault run 1 Memory"
printed_run_fault Read = codes "fault run 2 Read"
printed_run_fault Write = codes "fault run 3 Write"
