use Rattle.std.proofs.Common.{inr, refl}
use Rattle.reply_book.specs.Tables.{tables_in}
use Rattle.table_check.proofs.TableLemmas.{handed-on}
use Rattle.line_replay.specs.Fault.{replay_fault}
use Rattle.line_replay.proofs.input.replay_input.Goals as goal

-- the run was by the tables of the words, and ended early
pub returns-in_err-replay_text-clause-fault : goal.returns-in_err-replay_text-clause-fault
returns-in_err-replay_text-clause-fault g c =
    handed-on _ c.from_residual-in_err-replay_text.result (replay_fault c.in_err-replay_text.field-0.0)
    c.from_residual-in_err-replay_text.ensures.1
    (inr (
      c.in_err-replay_text.field-0.0,
      refl,
      record {
        tables = tables_in c.in_ok-schedule.schedule;
        named = c.in_ok-schedule.ensures.ok;
        says = c.in_err-replay_text.ensures.written;
      },
    ))

-- it was by the tables of the words, to its end
pub returns-clause-ok : goal.returns-clause-ok
returns-clause-ok g c = record {
  tables = tables_in c.in_ok-schedule.schedule;
  named = c.in_ok-schedule.ensures.ok;
  says = c.in_ok-replay_text.ensures.written;
}
