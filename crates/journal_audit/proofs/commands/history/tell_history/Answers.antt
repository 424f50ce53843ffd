use Rattle.std.proofs.Common.{inl, inr, refl}
use Rattle.reply_book.specs.Tables.{tables_in}
use Rattle.journal_audit.specs.Command.{audit_fault}
use Rattle.journal_audit.specs.declared.commands.fault.CommandFault.TheVariants.{Trial}
use Rattle.table_check.proofs.TableLemmas.{handed-on}
use Rattle.journal_audit.proofs.commands.history.tell_history.Goals as goal

-- the words give no tables
pub returns-in_err-schedule-clause-fault : goal.returns-in_err-schedule-clause-fault
returns-in_err-schedule-clause-fault g c =
    let refused = rw c.as_slice.ensures.value at c.in_err-schedule.ensures.fault in
    handed-on _ c.from_residual.result (Trial c.in_err-schedule.field-0.0) c.from_residual.ensures.1
    (inl (inl refused, refl))

-- the history of the words' journal, by their tables, ended early
pub returns-in_err-write_history-clause-fault : goal.returns-in_err-write_history-clause-fault
returns-in_err-write_history-clause-fault g c =
    let named = rw c.as_slice.ensures.value at c.in_ok-schedule.ensures.ok in
    let told = rw c.wanted_of-wanted.ensures at c.in_err-write_history.ensures in
    handed-on _ c.from_residual-in_err-write_history.result (audit_fault c.in_err-write_history.field-0.0)
    c.from_residual-in_err-write_history.ensures.1
    (inr (
      c.in_err-write_history.field-0.0,
      refl,
      record {
        tables = tables_in c.in_ok-schedule.schedule;
        named = named;
        says = record { bytes = c.in_ok-bytes.field-0.bytes.items; given = c.in_ok-bytes.ensures.ok; says = told };
      },
    ))

-- it was told whole
pub returns-clause-ok : goal.returns-clause-ok
returns-clause-ok g c =
    let named = rw c.as_slice.ensures.value at c.in_ok-schedule.ensures.ok in
    let told = rw c.wanted_of-wanted.ensures at c.in_ok-write_history.ensures in
    record {
      tables = tables_in c.in_ok-schedule.schedule;
      named = named;
      says = record { bytes = c.in_ok-bytes.field-0.bytes.items; given = c.in_ok-bytes.ensures.ok; says = told };
    }
