-- The sums over the rows (this project's choice).
use Rattle.std.specs.Prelude.{◌≡◌, ℤ, pos, ◌+ℤ◌, ◌-ℤ◌, List, [], ◌∷◌, length, sum_by}
use Rattle.journal_audit.specs.declared.balances.row.Row.{Row}
use Rattle.journal_audit.specs.declared.balances.sums.Sums.{Sums}
use Rattle.journal_audit.specs.declared.balances.totals.Totals.{Totals}
use Rattle.journal_audit.specs.Sums.{charge_in}

-- the sum of what this says of each row
abbrev pub sum_signed : (Row → ℤ) → List Row → ℤ
sum_signed f [] = pos 0
sum_signed f (row ∷ rows) = f row +ℤ sum_signed f rows

-- how many rows there are, and the sums over them
unfoldable pub totals_of : List Row → Totals
totals_of rows = record {
  cards = length rows;
  paid_in = sum_by (λ row. row.sums.paid_in) rows;
  charged = sum_signed (λ row. charge_in row.sums) rows;
  balance = sum_signed (λ row. row.view.balance) rows;
}

-- the sums over the cards of the rows
abbrev pub sums_in : List Row → Sums
sums_in rows = record {
  paid_in = sum_by (λ row. row.sums.paid_in) rows;
  taken = sum_by (λ row. row.sums.taken) rows;
  returned = sum_by (λ row. row.sums.returned) rows;
}

-- what was paid in, less what was charged, is what the cards hold
abbrev pub AreTotalsBalanced : Totals → Type 0
AreTotalsBalanced totals = (pos totals.paid_in -ℤ totals.charged) ≡ totals.balance
