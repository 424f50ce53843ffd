use Rattle.std.proofs.Common.{◌≡◌, ◌≢◌, None, Some, IfOk, IfErr, subst, sym, ap, ◌∙◌}
use Rattle.fare_table.specs.Faults.{first_fault, fault_in}
use Rattle.fare_table.specs.declared.fault.TableFault.TheVariants.{Memory}
use Rattle.fare_table.proofs.BytesLemmas.{fault_in-text, fault_in-other}
use Rattle.fare_table.proofs.fares.Fares.read_bytes.Goals as goal
use Rattle.fare_table.proofs.fares.Fares.read_bytes.Goals.{After-read}

-- the text that was read has the faults of the bytes
same : (c : After-read) → first_fault c.in-Ok.text.now ≡ fault_in c.args.bytes.now
same c = ap first_fault c.in-Ok.ensures.cases.0 ∙ sym (fault_in-text c.args.bytes.now c.in-Ok.ensures.cases.1)

pub returns-in-Ok-clause-no_fault : goal.returns-in-Ok-clause-no_fault
returns-in-Ok-clause-no_fault c = subst (λ fault. IfOk c.read.result (λ _. fault ≡ None))
    (same c) c.read.ensures.no_fault

pub returns-in-Ok-clause-fault : goal.returns-in-Ok-clause-fault
returns-in-Ok-clause-fault c =
    subst (λ fault. IfErr c.read.result (λ found. found ≢ Memory → fault ≡ Some found)) (same c) c.read.ensures.fault

pub returns-in-Err-clause-fault : goal.returns-in-Err-clause-fault
returns-in-Err-clause-fault c = λ other. fault_in-other c.args.bytes.now c.in-Err.ensures.cases.0
