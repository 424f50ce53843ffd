use Rattle.std.proofs.Common.{Some}
use Rattle.tap_office.specs.Opening.{opened_of}
use Rattle.office_tests.proofs.tests.of_tap_office.rounds.reopened.Given as goal

abbrev pub ghosts-through_a_crash-N-Named : goal.ghosts-through_a_crash-N-Named
ghosts-through_a_crash-N-Named g a = record { opened = opened_of a.opening }

abbrev pub ghosts-through_a_crash-N-Ledger : goal.ghosts-through_a_crash-N-Ledger
ghosts-through_a_crash-N-Ledger g a = record { name = a.opening.receipts; parts = a.opening.seats }

abbrev pub ghosts-through_a_crash-N-LogName : goal.ghosts-through_a_crash-N-LogName
ghosts-through_a_crash-N-LogName g a =
    record { commit_log = a.opening.commit_log; table = Some (a.opening.tables, a.opening.header.cards) }
