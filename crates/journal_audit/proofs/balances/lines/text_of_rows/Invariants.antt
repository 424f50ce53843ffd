use Rattle.std.proofs.Common.{◌≡◌, take, string_bytes}
use Rattle.journal_audit.specs.BalancesLines.{text_of_rows}
use Rattle.journal_audit.proofs.balances.lines.text_of_rows.Given as goal

-- the text is the heading and the lines of the rows so far
abbrev pub invariant-loop-row : goal.invariant-loop-row
invariant-loop-row l = string_bytes l.text ≡ text_of_rows (take l.row-index l.rows)
