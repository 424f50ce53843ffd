use Rattle.std.proofs.Common.{◌≡◌, ◌∙◌, inr, refl}
use Rattle.std.specs.Process.{exit_status}
use Rattle.std.specs.Prelude.{option_map}
use Rattle.reply_book.specs.Tables.{tables_in}
use Rattle.journal_audit.specs.Command.{audit_fault}
use Rattle.journal_audit.specs.Verified.{status_of}
use Rattle.table_check.proofs.TableLemmas.{handed-on}
use Rattle.journal_audit.proofs.commands.verify.verify_station.Goals as goal

-- the audit of the words' journal, by their tables and seal, ended early
pub returns-in_err-found-clause-fault : goal.returns-in_err-found-clause-fault
returns-in_err-found-clause-fault g c =
    let sealed = rw c.asked_of-wanted.ensures at c.in_err-found.ensures in
    let told = rw c.deref.ensures.value at sealed in
    handed-on _ c.from_residual-in_err-found.result (audit_fault c.in_err-found.field-0.0)
    c.from_residual-in_err-found.ensures.1
    (inr (
      c.in_err-found.field-0.0,
      refl,
      record {
        tables = option_map tables_in c.in_ok-schedule.schedule;
        asked = c.in_ok-schedule.ensures.ok;
        written = record { bytes = c.in_ok-read.read.bytes.items; given = c.in_ok-read.ensures.ok; says = told };
      },
    ))

-- a sound journal was told whole, and the status is that of what was found
pub returns-clause-ok : goal.returns-clause-ok
returns-clause-ok g c =
    let sealed = rw c.asked_of-wanted.ensures at c.in_ok-found.ensures in
    let told = rw c.deref.ensures.value at sealed in
    let status : exit_status c.from.result ≡ status_of c.in_ok-found.found = c.from.ensures ∙ c.status_of.ensures in
    record {
      tables = option_map tables_in c.in_ok-schedule.schedule;
      asked = c.in_ok-schedule.ensures.ok;
      written = record {
        bytes = c.in_ok-read.read.bytes.items;
        given = c.in_ok-read.ensures.ok;
        says = record { text = told.text; appended = told.appended; says = (c.in_ok-found.found, told.says, status) };
      };
    }
