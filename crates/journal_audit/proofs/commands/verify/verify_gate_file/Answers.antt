use Rattle.std.proofs.Common.{◌≡◌, ◌∙◌, inr, refl}
use Rattle.std.specs.Process.{exit_status}
use Rattle.journal_audit.specs.Command.{audit_fault}
use Rattle.journal_audit.specs.Verified.{status_of}
use Rattle.table_check.proofs.TableLemmas.{handed-on}
use Rattle.journal_audit.proofs.commands.verify.verify_gate_file.Goals as goal

-- the audit of the gate's file ended early
pub returns-in_err-found-clause-fault : goal.returns-in_err-found-clause-fault
returns-in_err-found-clause-fault g c =
    let asked = rw c.asked_of-wanted.ensures at c.in_err-found.ensures in
    let told = rw c.deref.ensures.value at asked in
    handed-on _ c.from_residual-in_err-found.result (audit_fault c.in_err-found.field-0.0)
    c.from_residual-in_err-found.ensures.1
    (inr (
      c.in_err-found.field-0.0,
      refl,
      record { bytes = c.in_ok-content.content.bytes.items; given = c.in_ok-content.ensures.ok; says = told },
    ))

-- a gate's file was told whole, and the status is that of what was found
pub returns-clause-ok : goal.returns-clause-ok
returns-clause-ok g c =
    let asked = rw c.asked_of-wanted.ensures at c.in_ok-found.ensures in
    let told = rw c.deref.ensures.value at asked in
    let status : exit_status c.from.result ≡ status_of c.in_ok-found.found = c.from.ensures ∙ c.status_of.ensures in
    record {
      bytes = c.in_ok-content.content.bytes.items;
      given = c.in_ok-content.ensures.ok;
      says = record { text = told.text; appended = told.appended; says = (c.in_ok-found.found, told.says, status) };
    }
