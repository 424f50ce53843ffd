-- What a fault prints: the line that standard error gets of it (FAULTS.md, "Faults of
-- gate_send"; this project's choice).
use Rattle.std.specs.Prelude.{ℕ, List, ◌++◌, Option, Some, None, codes}
use Rattle.std.specs.Fmt.{decimal}
use Rattle.text_io.specs.Texts.{printed_run_fault}
use Rattle.gate_client.specs.Enquiring.{printed_enquire_fault}
use Rattle.gate_client.specs.Texts.{printed_file_fault, printed_ask_fault}
use Rattle.gate_client.specs.SettleTexts.{printed_settle_fault}
use Rattle.gate_command.specs.declared.fault.SendFault.{SendFault}
use Rattle.gate_command.specs.declared.fault.SendFault.TheVariants.{Line, Run, File, GateFile}
use Rattle.gate_command.specs.declared.fault.SendFault.TheVariants.{BadLine, Clock, Ask, Settle}
use Rattle.gate_command.specs.declared.fault.SendFault.TheVariants.{Enquire}

-- the line of a fault: the name of its part, and what that part prints of it; what is said of a
-- command line is `clap`'s, which doesn't state it
abbrev pub told_fault : SendFault → Option (List ℕ)
told_fault (Line _) = None
told_fault (Run fault) = Some (printed_run_fault fault)
told_fault (File _) = Some (codes "fault file")
told_fault (GateFile fault _) = Some (codes "fault gate-file " ++ printed_file_fault fault)
told_fault (BadLine number _) = Some (codes "fault line " ++ decimal number)
told_fault Clock = Some (codes "fault clock")
told_fault (Ask fault _) = Some (codes "fault ask " ++ printed_ask_fault fault)
told_fault (Settle fault _) = Some (codes "fault " ++ printed_settle_fault fault)
told_fault (Enquire fault _) = Some (codes "fault enquiry " ++ printed_enquire_fault fault)
