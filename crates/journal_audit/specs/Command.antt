-- Why a journal wasn't told of, and what is asked of its header and seals (FAULTS.md;
-- COMMANDS.md, "verify"; this project's choice).
use Rattle.command_line.specs.declared.arguments.Verify.{Verify}
use Rattle.journal_audit.specs.declared.fault.AuditFault.{AuditFault}
use Rattle.journal_audit.specs.declared.fault.AuditFault.TheVariants as audits
use Rattle.journal_audit.specs.declared.audit.header.Asked.{Asked}
use Rattle.text_io.specs.declared.fault.RunFault.TheVariants as runs
use Rattle.console.specs.Detail.{no_detail}
use Rattle.console.specs.declared.fault.TrialFault.TheVariants.{Run}
use Rattle.journal_audit.specs.declared.commands.fault.CommandFault.{CommandFault}
use Rattle.journal_audit.specs.declared.commands.fault.CommandFault.TheVariants.{Journal, Place}
use Rattle.journal_audit.specs.declared.commands.fault.CommandFault.TheVariants.{Balance}
use Rattle.journal_audit.specs.declared.commands.fault.CommandFault.TheVariants.{Trial}
use Rattle.journal_audit.specs.declared.commands.fault.CommandFault.TheVariants as faults

-- want of memory, and a write that failed, are faults of the run; the others are told as they are
abbrev pub audit_fault : AuditFault → CommandFault
audit_fault audits.Memory = Trial (Run runs.Memory)
audit_fault audits.Write = Trial (Run runs.Write)
audit_fault (audits.Journal fault) = Journal fault no_detail
audit_fault (audits.Header fault) = faults.Header fault
audit_fault (audits.Seal fault) = faults.Seal fault
audit_fault (audits.Gate fault) = faults.Gate fault
audit_fault (audits.Card card cards) = faults.Card card cards
audit_fault (audits.Place touches) = Place touches
audit_fault (audits.Balance card) = Balance card

-- what a command line asks of the header and the seals is what the audit is asked
abbrev pub asked_by : Verify → Asked
asked_by verify = record {
  capacity = verify.expect_capacity;
  cards = verify.expect_cards;
  seal = verify.seal;
}
