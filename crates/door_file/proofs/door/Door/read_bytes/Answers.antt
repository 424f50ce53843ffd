use Rattle.std.proofs.Common.{◌≡◌, ◌≢◌, None, Some, IfOk, IfErr, subst, sym, ap, ◌∙◌}
use Rattle.toml.specs.Parse.{parse_document}
use Rattle.door_file.specs.Faults.{fault_of_tree, fault_in}
use Rattle.door_file.specs.declared.fault.DoorFault.TheVariants.{Memory}
use Rattle.door_file.proofs.BytesLemmas.{fault_in-text, fault_in-other}
use Rattle.door_file.proofs.door.Door.read_bytes.Goals as goal

-- the text that was read has the faults of the bytes
pub returns-in-Ok-clause-no_fault : goal.returns-in-Ok-clause-no_fault
returns-in-Ok-clause-no_fault c =
    let same : fault_of_tree (parse_document c.in-Ok.text.now) ≡ fault_in c.args.bytes.now =
    ap (λ text. fault_of_tree (parse_document text)) c.in-Ok.ensures.cases.0
    ∙ sym (fault_in-text c.args.bytes.now c.if-bytes-gt-MOST_BYTES.false c.in-Ok.ensures.cases.1) in
    subst (λ fault. IfOk c.read_tree.result (λ _. fault ≡ None)) same c.read_tree.ensures.no_fault

pub returns-in-Ok-clause-fault : goal.returns-in-Ok-clause-fault
returns-in-Ok-clause-fault c =
    let same : fault_of_tree (parse_document c.in-Ok.text.now) ≡ fault_in c.args.bytes.now =
    ap (λ text. fault_of_tree (parse_document text)) c.in-Ok.ensures.cases.0
    ∙ sym (fault_in-text c.args.bytes.now c.if-bytes-gt-MOST_BYTES.false c.in-Ok.ensures.cases.1) in
    subst (λ fault. IfErr c.read_tree.result (λ found. found ≢ Memory → fault ≡ Some found)) same
    c.read_tree.ensures.fault

pub returns-in-Err-clause-fault : goal.returns-in-Err-clause-fault
returns-in-Err-clause-fault c =
    λ other. fault_in-other c.args.bytes.now c.if-bytes-gt-MOST_BYTES.false c.in-Err.ensures.cases.0
