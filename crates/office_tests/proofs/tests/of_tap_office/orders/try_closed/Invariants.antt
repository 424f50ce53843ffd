use Rattle.std.proofs.Common.{Some}
use Rattle.tap_office.specs.Opening.{opened_of}
use Rattle.office_tests.proofs.tests.of_tap_office.orders.try_closed.Given as goal

abbrev pub ghosts-closed_after-N-Named : goal.ghosts-closed_after-N-Named
ghosts-closed_after-N-Named g a = record { opened = opened_of a.opening }

abbrev pub ghosts-closed_after-N-Ledger : goal.ghosts-closed_after-N-Ledger
ghosts-closed_after-N-Ledger g a = record { name = a.opening.receipts; parts = a.opening.seats }

abbrev pub ghosts-closed_after-N-LogName : goal.ghosts-closed_after-N-LogName
ghosts-closed_after-N-LogName g a =
    record { commit_log = a.opening.commit_log; table = Some (a.opening.tables, a.opening.header.cards) }
