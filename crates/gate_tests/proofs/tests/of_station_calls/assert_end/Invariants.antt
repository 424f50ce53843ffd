use Rattle.std.proofs.Common.{Some}
use Rattle.tap_office.specs.Opening.{opened_of}
use Rattle.gate_tests.proofs.tests.of_station_calls.assert_end.Given as goal

-- the name stands for the opening
abbrev pub ghosts-settled_by-N-Named : goal.ghosts-settled_by-N-Named
ghosts-settled_by-N-Named g a = record { opened = opened_of a.opening }

abbrev pub ghosts-settled_by-N-Ledger : goal.ghosts-settled_by-N-Ledger
ghosts-settled_by-N-Ledger g a = record { name = a.opening.receipts; parts = a.opening.seats }

abbrev pub ghosts-settled_by-N-LogName : goal.ghosts-settled_by-N-LogName
ghosts-settled_by-N-LogName g a =
    record { commit_log = a.opening.commit_log; table = Some (a.opening.tables, a.opening.header.cards) }
