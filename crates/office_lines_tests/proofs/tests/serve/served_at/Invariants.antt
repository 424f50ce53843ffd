use Rattle.std.proofs.Common.{Some}
use Rattle.tap_office.specs.Opening.{opened_of}
use Rattle.office_lines_tests.proofs.tests.serve.served_at.Given as goal

abbrev pub ghosts-serve_lines-N-Named : goal.ghosts-serve_lines-N-Named
ghosts-serve_lines-N-Named g a = record { opened = opened_of a.opening }

abbrev pub ghosts-serve_lines-N-Ledger : goal.ghosts-serve_lines-N-Ledger
ghosts-serve_lines-N-Ledger g a = record { name = a.opening.receipts; parts = a.opening.seats }

abbrev pub ghosts-serve_lines-N-LogName : goal.ghosts-serve_lines-N-LogName
ghosts-serve_lines-N-LogName g a =
    record { commit_log = a.opening.commit_log; table = Some (a.opening.tables, a.opening.header.cards) }
