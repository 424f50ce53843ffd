use Rattle.std.proofs.Common.{◌≡◌, ◌≤◌, length, take}
use Rattle.std.specs.Prelude.{sum_by, All}
use Rattle.reply_book.specs.Book.{entries_of, tables_of}
use Rattle.reply_book.specs.Legal.{history_of}
use Rattle.journal_audit.specs.Sums.{pence_moved}
use Rattle.journal_audit.specs.BalancesRows.{first_rows, IsBalanced}
use Rattle.journal_audit.proofs.balances.row.rows_by.Given as goal

-- the rows are those of the cards so far that were issued, each balanced
abbrev pub invariant-loop-place : goal.invariant-loop-place
invariant-loop-place l = record {
  rows : l.rows.items ≡ first_rows (tables_of l.book) l.cards (history_of (entries_of l.book)) l.place;
  balanced : All IsBalanced l.rows.items;
  measured : sum_by (λ row. pence_moved row.sums) l.rows.items ≤ sum_by pence_moved (take l.place l.sums);
  few : length l.rows.items ≤ l.place;
}
