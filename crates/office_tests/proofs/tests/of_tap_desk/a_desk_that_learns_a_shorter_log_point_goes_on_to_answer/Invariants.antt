use Rattle.std.proofs.Common.{Some}
use Rattle.reply_book.specs.Book.{cards_of, tables_of}
use Rattle.office_tests.proofs.tests.of_tap_desk.a_desk_that_learns_a_shorter_log_point_goes_on_to_answer.Given as goal

-- the commit log that has just begun
abbrev pub ghosts-disordered : goal.ghosts-disordered
ghosts-disordered g a =
    record { commit_log = a.commit_log.seen.book; table = Some (tables_of a.book, cards_of a.book) }
