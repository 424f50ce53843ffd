use Rattle.std.proofs.Common.{Some}
use Rattle.tap_office.specs.Opening.{opened_of}
use Rattle.office_tests.proofs.tests.of_tap_office.room.try_asked.Given as goal

abbrev pub ghosts-asked-N-Named : goal.ghosts-asked-N-Named
ghosts-asked-N-Named g a = record { opened = opened_of a.opening }

abbrev pub ghosts-asked-N-Ledger : goal.ghosts-asked-N-Ledger
ghosts-asked-N-Ledger g a = record { name = a.opening.receipts; parts = a.opening.seats }

abbrev pub ghosts-asked-N-LogName : goal.ghosts-asked-N-LogName
ghosts-asked-N-LogName g a =
    record { commit_log = a.opening.commit_log; table = Some (a.opening.tables, a.opening.header.cards) }
