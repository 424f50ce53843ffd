use Rattle.std.proofs.Common.{Some}
use Rattle.reply_book.specs.Book.{cards_of, tables_of}
use Rattle.office_tests.proofs.tests.of_tap_desk.desks_keep_up_beside_two_threads_that_commit.Given as goal

-- the commit log that has just begun
abbrev pub ghosts-shared : goal.ghosts-shared
ghosts-shared g a = record { commit_log = a.commit_log.seen.book; table = Some (tables_of a.book, cards_of a.book) }
