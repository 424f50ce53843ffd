use Rattle.reply_book.specs.Book.{entries_of, tables_of}
use Rattle.reply_book.specs.Legal.{history_of}
use Rattle.reply_book.specs.Tables.{tables_in}
use Rattle.journal_audit.proofs.BalancesLemmas.{rows-told}
use Rattle.journal_audit.proofs.balances.rows_after.Goals as goal

-- the rows are those after the touches
pub returns-in-Ok-clause-rows : goal.returns-in-Ok-clause-rows
returns-in-Ok-clause-rows c =
    let given = c.in_ok-book.ensures in
    rows-told (tables_in c.args.schedule) (tables_of c.in_ok-book.book) c.args.cards c.args.touches.now
    (history_of (entries_of c.in_ok-book.book)) c.in-Ok.rows.items given.tables given.history given.once given.known
    c.in-Ok.ensures.rows c.in-Ok.ensures.balanced
