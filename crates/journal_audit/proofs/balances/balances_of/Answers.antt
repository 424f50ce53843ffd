use Rattle.std.proofs.Common.{List, ◌∙◌, sym, subst, Some, string_bytes}
use Rattle.std.proofs.lemmas.Result.{err_from_is_err_and}
use Rattle.oyster_account.specs.declared.touch.Touch.{Touch}
use Rattle.reply_book.specs.Tables.{tables_in}
use Rattle.tap_journal.specs.Alone.{header_found}
use Rattle.journal_audit.specs.Audit.{IsJournal}
use Rattle.journal_audit.specs.Balances.{AreTouchesOf}
use Rattle.journal_audit.proofs.BalancesLemmas.{refused-alone, refused-touches, balances-told}
use Rattle.journal_audit.proofs.balances.balances_of.Goals as goal

-- a fault of the reading is told as it came
pub returns-in_err-found-clause-fault : goal.returns-in_err-found-clause-fault
returns-in_err-found-clause-fault c =
    let p = err_from_is_err_and c.from_residual.result c.from_residual.ensures.1 in
    rw (p.1, p.2) (refused-alone (tables_in c.args.schedule) c.args.at c.args.bytes.now c.digest_of_first.result
    c.in_err-found.field-0.0 c.digest_of_first.ensures c.in_err-found.ensures.fault c.in_err-found.ensures.discrepancy)

-- a touch that can't be entered is one of the journal's
pub returns-in_err-rows-clause-fault : goal.returns-in_err-rows-clause-fault
returns-in_err-rows-clause-fault c =
    let found = c.in_ok-found.found in
    let tables = tables_in c.args.schedule in
    let journal : IsJournal (Some tables) c.args.bytes.now found.format (header_found found) found.touches.items =
    record { image = c.in_ok-found.ensures.ok; table = c.in_ok-found.ensures.table ∙ c.digest_of_first.ensures } in
    let before : AreTouchesOf tables c.args.at c.args.bytes.now (header_found found) c.in_ok-touches.touches.now =
    record {
      format = found.format;
      all = c.deref.result.now;
      journal =
          subst (λ (l : List Touch). IsJournal (Some tables) c.args.bytes.now found.format (header_found found) l)
          (sym c.deref.ensures.value) journal;
      there = c.in_ok-touches.ensures.there;
      before = c.in_ok-touches.ensures.touches;
    } in
    let p = err_from_is_err_and c.from_residual-in_err-rows.result c.from_residual-in_err-rows.ensures.1 in
    rw (p.1, p.2) (refused-touches tables c.args.at c.args.bytes.now (header_found found) c.in_ok-touches.touches.now
    c.in_err-rows.field-0.0 before c.in_err-rows.ensures.fault)

-- the text and the totals are those of the rows
pub returns-clause-ok : goal.returns-clause-ok
returns-clause-ok c =
    let found = c.in_ok-found.found in
    let tables = tables_in c.args.schedule in
    let journal : IsJournal (Some tables) c.args.bytes.now found.format (header_found found) found.touches.items =
    record { image = c.in_ok-found.ensures.ok; table = c.in_ok-found.ensures.table ∙ c.digest_of_first.ensures } in
    balances-told tables c.args.at c.args.bytes.now found.format (header_found found) found.touches.items
    c.deref.result.now c.in_ok-touches.touches.now c.in_ok-rows.rows.items c.deref-3.result.now c.deref-2.result.now
    (string_bytes c.in_ok-text.text) c.totals_of-totals.result journal c.deref.ensures.value
    c.in_ok-touches.ensures.there c.in_ok-touches.ensures.touches c.in_ok-rows.ensures.rows c.deref-3.ensures.value
    c.deref-2.ensures.value c.in_ok-text.ensures c.totals_of-totals.ensures.value c.totals_of-totals.ensures.balanced
