use Rattle.std.proofs.Common.{inl, inr, refl}
use Rattle.reply_book.specs.Tables.{tables_in}
use Rattle.journal_audit.specs.Command.{audit_fault}
use Rattle.journal_audit.specs.declared.commands.fault.CommandFault.TheVariants.{Trial}
use Rattle.table_check.proofs.TableLemmas.{handed-on}
use Rattle.journal_audit.proofs.commands.balances.tell_balances.Goals as goal

-- the words give no tables
pub returns-in_err-schedule-clause-fault : goal.returns-in_err-schedule-clause-fault
returns-in_err-schedule-clause-fault g c =
    let refused = rw c.as_slice.ensures.value at c.in_err-schedule.ensures.fault in
    handed-on _ c.from_residual.result (Trial c.in_err-schedule.field-0.0) c.from_residual.ensures.1
    (inl (inl refused, refl))

-- the balances of the words' journal, by their tables, ended early
pub returns-in_err-totals-clause-fault : goal.returns-in_err-totals-clause-fault
returns-in_err-totals-clause-fault g c =
    let named = rw c.as_slice.ensures.value at c.in_ok-schedule.ensures.ok in
    let told = rw c.deref.ensures.value at c.in_err-totals.ensures in
    handed-on _ c.from_residual-in_err-totals.result (audit_fault c.in_err-totals.field-0.0)
    c.from_residual-in_err-totals.ensures.1
    (inr (inl (
      c.in_err-totals.field-0.0,
      refl,
      record {
        tables = tables_in c.in_ok-schedule.schedule;
        named = named;
        says = record { bytes = c.in_ok-read.read.bytes.items; given = c.in_ok-read.ensures.ok; says = told };
      },
    )))

-- they were told whole, and so were the sums
pub returns-in-Ok-clause-ok : goal.returns-in-Ok-clause-ok
returns-in-Ok-clause-ok g c =
    let named = rw c.as_slice.ensures.value at c.in_ok-schedule.ensures.ok in
    let told = rw c.deref.ensures.value at c.in_ok-totals.ensures in
    record {
      tables = tables_in c.in_ok-schedule.schedule;
      named = named;
      says = record {
        bytes = c.in_ok-read.read.bytes.items;
        given = c.in_ok-read.ensures.ok;
        says = record { text = told.text; appended = told.appended; says = (c.in_ok-totals.totals, told.says) };
      };
    }

-- they were told whole, and the sums weren't
pub returns-clause-fault : goal.returns-clause-fault
returns-clause-fault g c =
    let named = rw c.as_slice.ensures.value at c.in_ok-schedule.ensures.ok in
    let told = rw c.deref.ensures.value at c.in_ok-totals.ensures in
    inr (inr (
      c.sums_fault.ensures.0,
      c.sums_fault.ensures.1,
      record {
        tables = tables_in c.in_ok-schedule.schedule;
        named = named;
        says = record {
          bytes = c.in_ok-read.read.bytes.items;
          given = c.in_ok-read.ensures.ok;
          says = record { text = told.text; appended = told.appended; says = (c.in_ok-totals.totals, told.says) };
        };
      },
    ))
