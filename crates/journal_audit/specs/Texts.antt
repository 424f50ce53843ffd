-- What a fault prints that is told of a journal (FAULTS.md; this project's choice).
use Rattle.std.specs.Prelude.{ℕ, List, ◌++◌, codes}
use Rattle.std.specs.Fmt.{decimal}
use Rattle.journal_audit.specs.declared.fault.GateFault.{GateFault}
use Rattle.journal_audit.specs.declared.fault.GateFault.TheVariants.{NoFile, AnotherFile, Damaged}
use Rattle.journal_audit.specs.declared.fault.GateFault.TheVariants.{Foreign}
use Rattle.journal_audit.specs.declared.fault.JournalHeaderFault.{JournalHeaderFault}
use Rattle.journal_audit.specs.declared.fault.JournalHeaderFault.TheVariants.{Capacity, Cards}
use Rattle.journal_audit.specs.declared.fault.SealFault.{SealFault}
use Rattle.journal_audit.specs.declared.fault.SealFault.TheVariants.{Shorter, Changed}

-- a number that was found, and the one that isn't it
abbrev pub two_numbers : ℕ → ℕ → List ℕ
two_numbers found wanted = decimal found ++ (codes ", not " ++ decimal wanted)

-- of a header: its number, its name, what it says, and what was expected
abbrev pub printed_header_fault : JournalHeaderFault → List ℕ
printed_header_fault (Capacity says expected) = codes "1 Capacity " ++ two_numbers says expected
printed_header_fault (Cards says expected) = codes "2 Cards " ++ two_numbers says expected

-- of a seal: its number and its name, and of a shorter journal how many touches it has, and how
-- many the seal is of
abbrev pub printed_seal_fault : SealFault → List ℕ
printed_seal_fault (Shorter touches sealed) = codes "1 Shorter " ++ two_numbers touches sealed
printed_seal_fault Changed = codes "2 Changed"

-- of a gate's file: its number and its name, and the place where there is one
abbrev pub printed_gate_fault : GateFault → List ℕ
printed_gate_fault NoFile = codes "1 NoFile"
printed_gate_fault AnotherFile = codes "2 AnotherFile"
printed_gate_fault (Damaged place) = codes "3 Damaged " ++ decimal place
printed_gate_fault (Foreign place) = codes "4 Foreign " ++ decimal place
