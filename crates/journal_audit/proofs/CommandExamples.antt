-- Worked examples of commands, computed by the definitions: lines of FAULTS.md.
use Rattle.std.proofs.Common.{◌≡◌, refl, [], ◌∷◌, Some, None, codes, true, false}
use Rattle.std.specs.Fmt.{digits}
use Rattle.hex.proofs.OnLiterals.{hex_on_literals}
use Rattle.journal_audit.specs.declared.fault.AuditFault.TheVariants as audits
use Rattle.journal_audit.specs.declared.fault.GateFault.TheVariants.{Foreign}
use Rattle.journal_audit.specs.declared.fault.JournalHeaderFault.TheVariants.{Capacity, Cards}
use Rattle.journal_audit.specs.declared.fault.SealFault.TheVariants.{Shorter, Changed}
use Rattle.tap_journal.specs.declared.fault.JournalFault.{JournalFault}
use Rattle.tap_journal.specs.declared.fault.JournalFault.TheVariants as journals
use Rattle.tap_journal.specs.declared.fault.Refused.{Refused}
use Rattle.tap_journal.specs.declared.fault.MigrateCause.TheVariants as causes
use Rattle.console.specs.Detail.{no_detail}
use Rattle.journal_audit.specs.Command.{audit_fault}
use Rattle.journal_audit.specs.Differing.{other_table, other_cards, missing_table}
use Rattle.journal_audit.specs.Told.{told_fault}
use Rattle.journal_audit.specs.declared.commands.fault.CommandFault.TheVariants.{Listen, Place, Behind, Balance, Seal}
use Rattle.journal_audit.specs.declared.commands.fault.CommandFault.TheVariants.{Journal, Migrate}
use Rattle.journal_audit.specs.declared.commands.fault.CommandFault.TheVariants.{SeatMissing, Mismatch, DeskMismatch}
use Rattle.journal_audit.specs.declared.commands.fault.CommandFault.TheVariants.{Header, Gate, Card, Output}
use Rattle.journal_audit.specs.declared.commands.output.TheConstants.{PIPE_STATUS}

-- the line of each kind of fault
a_fault_is_told_in_one_line :
    (told_fault (Listen no_detail) ≡ Some (codes "fault listen"))
    × (told_fault (Place 4) ≡ Some (codes "fault place 4"))
    × (told_fault (Behind 785 no_detail) ≡ Some (codes "fault behind 785"))
    × (told_fault (Balance 17) ≡ Some (codes "fault balance 17"))
    × (told_fault (Seal Changed) ≡ Some (codes "fault seal 2 Changed"))
    × (told_fault (Seal (Shorter 2 4)) ≡ Some (codes "fault seal 1 Shorter 2, not 4"))
    × (told_fault (Header (Capacity 2 1000)) ≡ Some (codes "fault header 1 Capacity 2, not 1000"))
    × (told_fault (Header (Cards 9 10)) ≡ Some (codes "fault header 2 Cards 9, not 10"))
    × (told_fault (Gate (Foreign 12)) ≡ Some (codes "fault gate 4 Foreign 12"))
    × (told_fault (Card 11 10) ≡ Some (codes "fault card 11 above 10"))
    × (told_fault (Output no_detail) ≡ Some (codes "fault run 3 Write"))
    × (told_fault SeatMissing ≡ Some (codes "fault close 1 SeatMissing"))
    × (told_fault Mismatch ≡ Some (codes "fault close 2 Mismatch"))
    × (told_fault DeskMismatch ≡ Some (codes "fault close 3 DeskMismatch"))
unfolding digits
a_fault_is_told_in_one_line =
    (refl, refl, refl, refl, refl, refl, refl, refl, refl, refl, refl, refl, refl, refl)

-- a cause beside which nothing was found
abbrev alone : JournalFault → Refused
alone cause = record { cause = cause; found = None }

-- the line of a fault that came of a part
a_fault_of_a_part_is_told_as_the_commands :
    (told_fault (audit_fault audits.Memory) ≡ Some (codes "fault run 1 Memory"))
    × (told_fault (audit_fault audits.Write) ≡ Some (codes "fault run 3 Write"))
    × (told_fault (Journal (alone journals.WrongTable) no_detail) ≡ Some (codes "fault journal 5 WrongTable"))
    × (told_fault (Journal (alone (journals.Damaged 0)) no_detail) ≡ Some (codes "fault journal 7 Damaged 0"))
    × (told_fault (Journal (alone (journals.MissingTable 4)) no_detail)
    ≡ Some (codes "fault journal 13 MissingTable 4"))
    × (told_fault (Migrate (record { cause = causes.Old journals.WrongTable; found = None }) no_detail)
    ≡ Some (codes "fault migrate 3 Old 5 WrongTable"))
unfolding digits
a_fault_of_a_part_is_told_as_the_commands = (refl, refl, refl, refl, refl, refl)

-- the words behind the line of a journal's fault; a digest has 32 bytes in a journal, and here 2
what_differs_is_told_with_both_values :
    (other_table (0x17 ∷ 0x08 ∷ []) (codes "a.toml") (0x96 ∷ 0xcc ∷ [])
    ≡ codes "made with the table 1708, and a.toml is 96cc")
    × (other_cards 1000 10 ≡ codes "made with 1000 cards, not 10")
    × (missing_table (0x96 ∷ 0xcc ∷ []) (codes "2026-01-05") true
    ≡ codes "no file has the table 96cc; its revision from 2026-01-05 was accepted")
    × (missing_table (0x96 ∷ 0xcc ∷ []) (codes "2026-01-05") false
    ≡ codes "no file has the table 96cc; its revision from 2026-01-05 was refused")
unfolding hex_on_literals digits
what_differs_is_told_with_both_values = (refl, refl, refl, refl)

-- the status of a command whose output nobody reads any more: 128 and the number of SIGPIPE
the_status_of_a_pipe_that_is_gone : PIPE_STATUS ≡ 141
the_status_of_a_pipe_that_is_gone = refl
