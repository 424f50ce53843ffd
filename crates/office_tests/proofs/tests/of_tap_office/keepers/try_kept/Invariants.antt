use Rattle.std.proofs.Common.{Some}
use Rattle.tap_office.specs.Opening.{opened_of}
use Rattle.office_tests.proofs.tests.of_tap_office.keepers.try_kept.Given as goal

abbrev pub ghosts-kept-N-Named : goal.ghosts-kept-N-Named
ghosts-kept-N-Named g a = record { opened = opened_of a.opening }

abbrev pub ghosts-kept-N-Ledger : goal.ghosts-kept-N-Ledger
ghosts-kept-N-Ledger g a = record { name = a.opening.receipts; parts = a.opening.seats }

abbrev pub ghosts-kept-N-LogName : goal.ghosts-kept-N-LogName
ghosts-kept-N-LogName g a =
    record { commit_log = a.opening.commit_log; table = Some (a.opening.tables, a.opening.header.cards) }
