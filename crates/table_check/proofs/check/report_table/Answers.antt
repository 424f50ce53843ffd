use Rattle.std.proofs.Common.{◌≢◌, List, ℕ, true, false, ap, sym, ◌∙◌, rules}
use Rattle.fare_table.specs.declared.fault.TableFault.TheVariants.{Memory}
use Rattle.table_check.specs.Check.{TableReport}
use Rattle.table_check.proofs.CheckLemmas.{report_of-valid, report_of-refused}
use Rattle.table_check.proofs.check.report_table.Goals as goal

pub returns-in_ok-table_lines-in-Ok-clause-report : goal.returns-in_ok-table_lines-in-Ok-clause-report
returns-in_ok-table_lines-in-Ok-clause-report c =
    let Told : List ℕ → TableReport = λ text. record { text = text; valid = true } in
    ap Told c.in_ok-table_lines-in-Ok.ensures
    ∙ sym (report_of-valid c.args.bytes.now c.in-Ok.fares c.in-Ok.ensures.ok c.in-Ok.ensures.no_fault)

pub returns-in_ok-format-in-Err-clause-report : goal.returns-in_ok-format-in-Err-clause-report
returns-in_ok-format-in-Err-clause-report c =
    let Told : List ℕ → TableReport = λ text. record { text = text; valid = false } in
    let other : c.in-Err.fault ≢ Memory = search rules in
    ap Told c.in_ok-format-in-Err.ensures.ok
    ∙ sym (report_of-refused c.args.bytes.now c.in-Err.fault (c.in-Err.ensures.fault other))

pub returns-in_ok-format-in-Err-clause-fault : goal.returns-in_ok-format-in-Err-clause-fault
returns-in_ok-format-in-Err-clause-fault c =
    let other : c.in-Err.fault ≢ Memory = search rules in
    sym (c.in-Err.ensures.fault other)
