use Rattle.std.proofs.Common.{◌≡◌, take}
use Rattle.card_statement.proofs.day_row.copy_of.Given as goal

-- the rows so far are the first of them
abbrev pub invariant-loop-incomplete : goal.invariant-loop-incomplete
invariant-loop-incomplete l = record { rows : l.rows.items ≡ take l.incomplete-index l.incompletes }
