use Rattle.std.proofs.Common.{Some}
use Rattle.tap_office.specs.Opening.{opened_of}
use Rattle.office_tests.proofs.tests.of_tap_office.turns.commit_calls.Given as goal

abbrev pub ghosts-work_side_by_side-N-Named : goal.ghosts-work_side_by_side-N-Named
ghosts-work_side_by_side-N-Named g a = record { opened = opened_of a.opening }

abbrev pub ghosts-work_side_by_side-N-Ledger : goal.ghosts-work_side_by_side-N-Ledger
ghosts-work_side_by_side-N-Ledger g a = record { name = a.opening.receipts; parts = a.opening.seats }

abbrev pub ghosts-work_side_by_side-N-LogName : goal.ghosts-work_side_by_side-N-LogName
ghosts-work_side_by_side-N-LogName g a =
    record { commit_log = a.opening.commit_log; table = Some (a.opening.tables, a.opening.header.cards) }
