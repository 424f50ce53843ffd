use Rattle.std.proofs.Common.{Some}
use Rattle.tap_office.specs.Opening.{opened_of}
use Rattle.office_tests.proofs.tests.of_tap_office.keepers.try_ahead.Given as goal

abbrev pub ghosts-answered_ahead-N-Named : goal.ghosts-answered_ahead-N-Named
ghosts-answered_ahead-N-Named g a = record { opened = opened_of a.opening }

abbrev pub ghosts-answered_ahead-N-Ledger : goal.ghosts-answered_ahead-N-Ledger
ghosts-answered_ahead-N-Ledger g a = record { name = a.opening.receipts; parts = a.opening.seats }

abbrev pub ghosts-answered_ahead-N-LogName : goal.ghosts-answered_ahead-N-LogName
ghosts-answered_ahead-N-LogName g a =
    record { commit_log = a.opening.commit_log; table = Some (a.opening.tables, a.opening.header.cards) }
