-- Worked examples, computed by the definitions: the printed line of each fault, as FAULTS.md has it.
use Rattle.std.proofs.Common.{◌≡◌, refl, codes}
use Rattle.text_io.specs.declared.fault.RunFault.TheVariants as fault
use Rattle.text_io.specs.Texts.{printed_run_fault}

printed_memory : printed_run_fault fault.Memory ≡ codes "fault run 1 Memory"
printed_memory = refl

printed_read : printed_run_fault fault.Read ≡ codes "fault run 2 Read"
printed_read = refl

printed_write : printed_run_fault fault.Write ≡ codes "fault run 3 Write"
printed_write = refl
