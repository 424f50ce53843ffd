use Rattle.std.proofs.Common.{Some}
use Rattle.reply_book.specs.Book.{cards_of, tables_of}
use Rattle.office_tests.proofs.tests.of_tap_desk.a_desk_answers_from_what_is_published.Given as goal

-- the commit log that has just begun
abbrev pub ghosts-alone : goal.ghosts-alone
ghosts-alone g a = record { commit_log = a.commit_log.seen.book; table = Some (tables_of a.book, cards_of a.book) }
