use Rattle.std.proofs.Common.{◌≡◌, ◌≤◌, ◌-◌, length, take}
use Rattle.std.specs.Prelude.{sum_by}
use Rattle.reply_book.specs.Book.{entries_of}
use Rattle.reply_book.specs.Legal.{history_of}
use Rattle.journal_audit.specs.Sums.{AreSumsOf, pence_moved, most_moved}
use Rattle.journal_audit.proofs.balances.sums.sums_of.Given as goal

-- the sums are those over the touches so far, each card's in its place
abbrev pub invariant-loop-entry : goal.invariant-loop-entry
invariant-loop-entry l = record {
  within : l.place ≤ length (entries_of l.book);
  cards : length l.all.items ≡ l.cards;
  sums : AreSumsOf (history_of (take l.place (entries_of l.book))) l.all.items;
  measured : sum_by pence_moved l.all.items ≤ most_moved l.place;
}

abbrev pub decreases-loop-entry : goal.decreases-loop-entry
decreases-loop-entry l = length (entries_of l.book) - l.place
