use Rattle.std.proofs.Common.{Some}
use Rattle.tap_office.specs.Opening.{opened_of}
use Rattle.gate_tests.proofs.tests.of_station_calls.rounded.Given as goal

-- the name stands for the opening
abbrev pub ghosts-round_in_steps-N-Named : goal.ghosts-round_in_steps-N-Named
ghosts-round_in_steps-N-Named g a = record { opened = opened_of a.opening }

abbrev pub ghosts-round_in_steps-N-Ledger : goal.ghosts-round_in_steps-N-Ledger
ghosts-round_in_steps-N-Ledger g a = record { name = a.opening.receipts; parts = a.opening.seats }

abbrev pub ghosts-round_in_steps-N-LogName : goal.ghosts-round_in_steps-N-LogName
ghosts-round_in_steps-N-LogName g a =
    record { commit_log = a.opening.commit_log; table = Some (a.opening.tables, a.opening.header.cards) }
