-- What a fault prints: the line that standard error gets of it (FAULTS.md, "Faults"; this
-- project's choice).
use Rattle.std.specs.Prelude.{◌≡◌, ℕ, List, ◌++◌, Option, Some, codes}
use Rattle.std.specs.Fmt.{decimal}
use Rattle.journal_audit.specs.Texts.{printed_gate_fault, printed_header_fault, printed_seal_fault}
use Rattle.text_io.specs.declared.fault.RunFault.TheVariants.{Write}
use Rattle.console.specs.Told.{told_trial}
use Rattle.console.specs.declared.fault.TrialFault.TheVariants.{Run}
use Rattle.tap_journal.specs.Texts.{printed_cause, printed_fault as printed_journal_fault}
use Rattle.door_file.specs.Texts.{printed_fault as printed_door_fault}
use Rattle.journal_audit.specs.declared.commands.fault.CommandFault.{CommandFault}
use Rattle.journal_audit.specs.declared.commands.fault.CommandFault.TheVariants.{Trial, Journal}
use Rattle.journal_audit.specs.declared.commands.fault.CommandFault.TheVariants.{Migrate}
use Rattle.journal_audit.specs.declared.commands.fault.CommandFault.TheVariants.{Header, Seal}
use Rattle.journal_audit.specs.declared.commands.fault.CommandFault.TheVariants.{Gate, Card, Output}
use Rattle.journal_audit.specs.declared.commands.fault.CommandFault.TheVariants.{Place, Behind}
use Rattle.journal_audit.specs.declared.commands.fault.CommandFault.TheVariants.{Balance}
use Rattle.journal_audit.specs.declared.commands.fault.CommandFault.TheVariants.{Unissued}
use Rattle.journal_audit.specs.declared.commands.fault.CommandFault.TheVariants.{Door, Listen}
use Rattle.journal_audit.specs.declared.commands.fault.CommandFault.TheVariants.{SeatMissing}
use Rattle.journal_audit.specs.declared.commands.fault.CommandFault.TheVariants.{Mismatch}
use Rattle.journal_audit.specs.declared.commands.fault.CommandFault.TheVariants.{DeskMismatch}

-- the line of a fault: the name of its part, and what that part prints of it
abbrev pub told_fault : CommandFault → Option (List ℕ)
told_fault (Trial fault) = told_trial fault
told_fault (Journal refused _) =
    Some (codes "fault journal " ++ printed_journal_fault refused.cause)
told_fault (Migrate refused _) = Some (codes "fault migrate " ++ printed_cause refused.cause)
told_fault (Header fault) = Some (codes "fault header " ++ printed_header_fault fault)
told_fault (Seal fault) = Some (codes "fault seal " ++ printed_seal_fault fault)
told_fault (Gate fault) = Some (codes "fault gate " ++ printed_gate_fault fault)
told_fault (Card card cards) =
    Some (codes "fault card " ++ (decimal card ++ (codes " above " ++ decimal cards)))
told_fault (Unissued card) = Some (codes "fault card " ++ (decimal card ++ codes " not issued"))
told_fault (Place touches) = Some (codes "fault place " ++ decimal touches)
told_fault (Behind slots _) = Some (codes "fault behind " ++ decimal slots)
told_fault (Balance card) = Some (codes "fault balance " ++ decimal card)
told_fault (Door fault _) = Some (printed_door_fault fault)
told_fault (Listen _) = Some (codes "fault listen")
told_fault (Output _) = told_trial (Run Write)
told_fault SeatMissing = Some (codes "fault close 1 SeatMissing")
told_fault Mismatch = Some (codes "fault close 2 Mismatch")
told_fault DeskMismatch = Some (codes "fault close 3 DeskMismatch")

-- the fault has the line of one of which this is said: its second line may be another
abbrev pub IsExplained : (CommandFault → Type 0) → CommandFault → Type 0
IsExplained Says fault =
    (cause : CommandFault) × (told_fault fault ≡ told_fault cause) × Says cause
