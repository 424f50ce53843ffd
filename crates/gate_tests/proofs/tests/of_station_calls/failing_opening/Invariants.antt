use Rattle.std.proofs.Common.{Some}
use Rattle.tap_office.specs.Opening.{opened_of}
use Rattle.gate_tests.proofs.tests.of_station_calls.failing_opening.Given as goal

-- the name stands for the opening
abbrev pub ghosts-closed_disk-N-Named : goal.ghosts-closed_disk-N-Named
ghosts-closed_disk-N-Named g a = record { opened = opened_of a.opening }

abbrev pub ghosts-closed_disk-N-Ledger : goal.ghosts-closed_disk-N-Ledger
ghosts-closed_disk-N-Ledger g a = record { name = a.opening.receipts; parts = a.opening.seats }

abbrev pub ghosts-closed_disk-N-LogName : goal.ghosts-closed_disk-N-LogName
ghosts-closed_disk-N-LogName g a =
    record { commit_log = a.opening.commit_log; table = Some (a.opening.tables, a.opening.header.cards) }
