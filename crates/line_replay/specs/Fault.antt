-- Which fault of a command the fault of a replay is (FAULTS.md, "Faults"; this project's choice).
use Rattle.line_replay.specs.declared.fault.LineReplayFault.{LineReplayFault}
use Rattle.line_replay.specs.declared.fault.LineReplayFault.TheVariants.{Run, BadLine}
use Rattle.console.specs.declared.fault.TrialFault.{TrialFault}
use Rattle.console.specs.declared.fault.TrialFault.TheVariants as trials

-- why a replay ended early is a fault of the run, or a bad line
abbrev pub replay_fault : LineReplayFault → TrialFault
replay_fault (Run fault) = trials.Run fault
replay_fault (BadLine number) = trials.BadLine number
