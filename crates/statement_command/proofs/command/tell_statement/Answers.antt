use Rattle.std.proofs.Common.{inl, inr, refl}
use Rattle.reply_book.specs.Tables.{tables_in}
use Rattle.journal_audit.specs.declared.commands.fault.CommandFault.TheVariants.{Trial}
use Rattle.table_check.proofs.TableLemmas.{handed-on}
use Rattle.statement_command.proofs.command.tell_statement.Goals as goal

-- the words give no tables
pub returns-in_err-schedule-clause-fault : goal.returns-in_err-schedule-clause-fault
returns-in_err-schedule-clause-fault g c =
    let refused = rw c.as_slice.ensures.value at c.in_err-schedule.ensures.fault in
    handed-on _ c.from_residual.result (Trial c.in_err-schedule.field-0.0) c.from_residual.ensures.1
    (inl (inl refused, refl))

-- the statement of the words' journal, by their tables, ended early
pub returns-in_err-write_statement-clause-fault : goal.returns-in_err-write_statement-clause-fault
returns-in_err-write_statement-clause-fault g c =
    let named = rw c.as_slice.ensures.value at c.in_ok-schedule.ensures.ok in
    handed-on _ c.from_residual-in_err-write_statement.result c.in_err-write_statement.field-0.0
    c.from_residual-in_err-write_statement.ensures.1
    (inr (record {
      tables = tables_in c.in_ok-schedule.schedule;
      named = named;
      says = record {
        bytes = c.in_ok-bytes.field-0.bytes.items;
        given = c.in_ok-bytes.ensures.ok;
        says = c.in_err-write_statement.ensures;
      };
    }))

-- it was told whole
pub returns-clause-ok : goal.returns-clause-ok
returns-clause-ok g c =
    let named = rw c.as_slice.ensures.value at c.in_ok-schedule.ensures.ok in
    record {
      tables = tables_in c.in_ok-schedule.schedule;
      named = named;
      says = record {
        bytes = c.in_ok-bytes.field-0.bytes.items;
        given = c.in_ok-bytes.ensures.ok;
        says = c.in_ok-write_statement.ensures;
      };
    }
