use Rattle.std.proofs.Common.{Some}
use Rattle.tap_office.specs.Opening.{opened_of}
use Rattle.office_lines_tests.proofs.tests.sessions.tried.Given as goal

abbrev pub ghosts-sessions-N-Named : goal.ghosts-sessions-N-Named
ghosts-sessions-N-Named g a = record { opened = opened_of a.opening }

abbrev pub ghosts-sessions-N-Ledger : goal.ghosts-sessions-N-Ledger
ghosts-sessions-N-Ledger g a = record { name = a.opening.receipts; parts = a.opening.seats }

abbrev pub ghosts-sessions-N-LogName : goal.ghosts-sessions-N-LogName
ghosts-sessions-N-LogName g a =
    record { commit_log = a.opening.commit_log; table = Some (a.opening.tables, a.opening.header.cards) }
