-- Why `serve` ended before its report (FAULTS.md, "Faults"; this project's choice).
use Rattle.office_lines.specs.declared.fault.ServeFault.{ServeFault}
use Rattle.office_lines.specs.declared.fault.ServeFault.TheVariants as serves
use Rattle.text_io.specs.declared.fault.RunFault.TheVariants as runs
use Rattle.tap_office.specs.declared.fault.CloseCause.TheVariants as closes
use Rattle.console.specs.declared.fault.TrialFault.TheVariants as trials
use Rattle.journal_audit.specs.declared.commands.fault.CommandFault.{CommandFault}
use Rattle.journal_audit.specs.declared.commands.fault.CommandFault.TheVariants as faults

-- want of memory, and a write that failed, are faults of the run; an office that wasn't closed is
-- told by its cause
abbrev pub serve_fault : ServeFault → CommandFault
serve_fault serves.Memory = faults.Trial (trials.Run runs.Memory)
serve_fault serves.Write = faults.Trial (trials.Run runs.Write)
serve_fault (serves.Close closes.SeatMissing) = faults.SeatMissing
serve_fault (serves.Close closes.Mismatch) = faults.Mismatch
serve_fault (serves.Close closes.DeskMismatch) = faults.DeskMismatch
