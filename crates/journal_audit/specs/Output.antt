-- When a command ends without a fault's line, since nobody reads what it writes (COMMANDS.md,
-- "history"; this project's choice).
use Rattle.std.specs.Prelude.{◌≡◌, ℤ, pos, Option, Some}
use Rattle.text_io.specs.declared.fault.RunFault.TheVariants as runs
use Rattle.console.specs.declared.fault.TrialFault.TheVariants.{Run}
use Rattle.console.specs.declared.refusal.SystemRefusal.{SystemRefusal}
use Rattle.console.specs.declared.refusal.SystemRefusal.TheVariants.{Other}
use Rattle.journal_audit.specs.declared.commands.fault.CommandFault.{CommandFault}
use Rattle.journal_audit.specs.declared.commands.fault.CommandFault.TheVariants.{Trial}

-- Linux's number of the error of a write to a pipe that nobody reads (errno.h, EPIPE)
abbrev pub pipe_error : ℤ
pipe_error = pos 32

-- the run ended at a failed write, which the system refused by that error
abbrev pub IsPipeGone : Option SystemRefusal → CommandFault → Type 0
IsPipeGone refusal fault = (refusal ≡ Some (Other pipe_error)) × (fault ≡ Trial (Run runs.Write))
