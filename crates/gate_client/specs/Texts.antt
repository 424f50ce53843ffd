-- The printed text of each fault: its number and its name, and the place or the code that it is
-- about (FAULTS.md; this project's choice).
use Rattle.std.specs.Prelude.{codes, ℕ, List, ◌++◌}
use Rattle.std.specs.Fmt.{decimal}
use Rattle.gate_client.specs.declared.fault.FileFault.{FileFault}
use Rattle.gate_client.specs.declared.fault.FileFault.TheVariants as files
use Rattle.gate_client.specs.declared.fault.AskFault.{AskFault}
use Rattle.gate_client.specs.declared.fault.AskFault.TheVariants as asks
use Rattle.gate_client.specs.declared.fault.HearFault.{HearFault}
use Rattle.gate_client.specs.declared.fault.HearFault.TheVariants as hears

-- what a fault of a gate's file prints
abbrev pub printed_file_fault : FileFault → List ℕ
printed_file_fault files.Memory = codes "1 Memory"
printed_file_fault files.Device = codes "2 Device"
printed_file_fault files.BadLimit = codes "3 BadLimit"
printed_file_fault files.NotEmpty = codes "4 NotEmpty"
printed_file_fault files.NoFile = codes "5 NoFile"
printed_file_fault files.AnotherFile = codes "6 AnotherFile"
printed_file_fault (files.Damaged place) = codes "7 Damaged " ++ decimal place
printed_file_fault (files.Foreign place) = codes "8 Foreign " ++ decimal place

-- what the cause for which a touch isn't kept prints
abbrev pub printed_ask_fault : AskFault → List ℕ
printed_ask_fault asks.Waiting = codes "1 Waiting"
printed_ask_fault asks.Stopped = codes "2 Stopped"
printed_ask_fault asks.Full = codes "3 Full"
printed_ask_fault asks.Device = codes "4 Device"

-- what the cause for which there is no reply prints
abbrev pub printed_hear_fault : HearFault → List ℕ
printed_hear_fault hears.NoAnswer = codes "1 NoAnswer"
printed_hear_fault hears.Stray = codes "2 Stray"
printed_hear_fault (hears.Refused code) = codes "3 Refused " ++ decimal code
