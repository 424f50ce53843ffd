use Rattle.std.proofs.Common.{◌≡◌, take}
use Rattle.journal_audit.specs.Totals.{sums_in}
use Rattle.journal_audit.proofs.balances.totals.sums_in.Given as goal

-- the sums are those over the rows so far
abbrev pub invariant-loop-row : goal.invariant-loop-row
invariant-loop-row l = l.sums ≡ sums_in (take l.row-index l.rows)
