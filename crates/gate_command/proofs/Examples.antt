-- Worked examples, computed by the definitions: lines of FAULTS.md, "Faults of gate_send".
use Rattle.std.proofs.Common.{◌≡◌, refl, Some, None, codes}
use Rattle.std.specs.Fmt.{digits}
use Rattle.text_io.specs.declared.fault.RunFault.TheVariants as runs
use Rattle.gate_client.specs.declared.fault.FileFault.TheVariants as files
use Rattle.gate_client.specs.declared.fault.AskFault.TheVariants as asks
use Rattle.gate_client.specs.declared.settling.SettleFault.TheVariants as settles
use Rattle.gate_client.specs.declared.enquiry.EnquireFault.TheVariants as enquires
use Rattle.gate_command.specs.declared.fault.SendFault.TheVariants as sends
use Rattle.gate_command.specs.Told.{told_fault}

-- a fault of each part
each_part_is_told : (told_fault (sends.Run runs.Memory) ≡ Some (codes "fault run 1 Memory"))
    × (told_fault (sends.Run runs.Read) ≡ Some (codes "fault run 2 Read"))
    × (told_fault (sends.Run runs.Write) ≡ Some (codes "fault run 3 Write"))
    × (told_fault (sends.GateFile files.AnotherFile None) ≡ Some (codes "fault gate-file 6 AnotherFile"))
    × (told_fault (sends.Ask asks.Full None) ≡ Some (codes "fault ask 3 Full"))
    × (told_fault (sends.Settle settles.Conflict None) ≡ Some (codes "fault answer 2 Conflict"))
    × (told_fault (sends.Settle settles.NotAllowed None) ≡ Some (codes "fault answer 7 NotAllowed"))
    × (told_fault (sends.Settle (settles.Tries 10) None) ≡ Some (codes "fault tries 10"))
    × (told_fault (sends.BadLine 3 None) ≡ Some (codes "fault line 3"))
    × (told_fault (sends.Enquire enquires.NotAllowed None) ≡ Some (codes "fault enquiry answer 7 NotAllowed"))
    × (told_fault (sends.Enquire (enquires.Tries 10) None) ≡ Some (codes "fault enquiry tries 10"))
unfolding digits
each_part_is_told = (refl, refl, refl, refl, refl, refl, refl, refl, refl, refl, refl)
