use Rattle.std.proofs.Common.{take}
use Rattle.std.specs.List.{All}
use Rattle.reply_book.specs.Book.{entries_of}
use Rattle.tap_office.specs.Close.{IsAtPlace}
use Rattle.tap_office.proofs.seat.are_at_places.Given as goal

abbrev pub invariant-loop-filed : goal.invariant-loop-filed
invariant-loop-filed l = All (IsAtPlace (entries_of l.book) l.number) (take l.filed-index l.receipts)
