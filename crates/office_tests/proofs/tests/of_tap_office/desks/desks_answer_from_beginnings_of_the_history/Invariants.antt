use Rattle.std.proofs.Common.{Some}
use Rattle.tap_office.specs.Opening.{opened_of}
use Rattle.office_tests.proofs.tests.of_tap_office.desks.desks_answer_from_beginnings_of_the_history.Given as goal

abbrev pub ghosts-commit_and_ask-N-Named : goal.ghosts-commit_and_ask-N-Named
ghosts-commit_and_ask-N-Named g a = record { opened = opened_of a.opening }

abbrev pub ghosts-commit_and_ask-N-Ledger : goal.ghosts-commit_and_ask-N-Ledger
ghosts-commit_and_ask-N-Ledger g a = record { name = a.opening.receipts; parts = a.opening.seats }

abbrev pub ghosts-commit_and_ask-N-LogName : goal.ghosts-commit_and_ask-N-LogName
ghosts-commit_and_ask-N-LogName g a =
    record { commit_log = a.opening.commit_log; table = Some (a.opening.tables, a.opening.header.cards) }
