use Rattle.std.proofs.Common.{take}
use Rattle.std.specs.List.{All}
use Rattle.reply_book.specs.Book.{entries_of}
use Rattle.tap_office.specs.Close.{IsReady}
use Rattle.tap_office.proofs.close.all_stand.Given as goal

abbrev pub invariant-loop-seat : goal.invariant-loop-seat
invariant-loop-seat g l = All (IsReady (entries_of l.book)) (take l.seat-index l.seats)
