use Rattle.std.proofs.Common.{Some}
use Rattle.tap_office.specs.Opening.{opened_of}
use Rattle.office_tests.proofs.tests.of_tap_office.threads.two_seats_on_two_threads_share_one_book.Given as goal

abbrev pub ghosts-two_gates-N-Named : goal.ghosts-two_gates-N-Named
ghosts-two_gates-N-Named g a = record { opened = opened_of a.opening }

abbrev pub ghosts-two_gates-N-Ledger : goal.ghosts-two_gates-N-Ledger
ghosts-two_gates-N-Ledger g a = record { name = a.opening.receipts; parts = a.opening.seats }

abbrev pub ghosts-two_gates-N-LogName : goal.ghosts-two_gates-N-LogName
ghosts-two_gates-N-LogName g a =
    record { commit_log = a.opening.commit_log; table = Some (a.opening.tables, a.opening.header.cards) }
