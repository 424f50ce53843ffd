use Rattle.std.proofs.Common.{Some}
use Rattle.tap_office.specs.Opening.{opened_of}
use Rattle.journal_service.proofs.server.serve_journal.Given as goal

-- the name stands for the opening that was read
abbrev pub ghosts-serve_opening-N-Named : goal.ghosts-serve_opening-N-Named
ghosts-serve_opening-N-Named g a = record { opened = opened_of a.opening }

abbrev pub ghosts-serve_opening-N-Ledger : goal.ghosts-serve_opening-N-Ledger
ghosts-serve_opening-N-Ledger g a = record { name = a.opening.receipts; parts = a.opening.seats }

abbrev pub ghosts-serve_opening-N-LogName : goal.ghosts-serve_opening-N-LogName
ghosts-serve_opening-N-LogName g a =
    record { commit_log = a.opening.commit_log; table = Some (a.opening.tables, a.opening.header.cards) }
