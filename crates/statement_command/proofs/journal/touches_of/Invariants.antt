use Rattle.std.proofs.Common.{◌≡◌, ◌++◌, drop}
use Rattle.oyster_account.specs.History.{of_card}
use Rattle.reply_book.specs.Book.{entries_of}
use Rattle.reply_book.specs.Legal.{history_of}
use Rattle.statement_command.proofs.journal.touches_of.Given as goal

-- the touches of the card so far and those among the entries that are left are all of the card's
abbrev pub invariant-loop-place : goal.invariant-loop-place
invariant-loop-place l =
    l.touches.items ++ of_card l.card (history_of (drop l.place (entries_of l.book)))
    ≡ of_card l.card (history_of (entries_of l.book))
