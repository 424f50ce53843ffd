-- The rows of the cards that were issued: what each holds, and what was paid in and charged (this
-- project's choice).
use Rattle.std.specs.Prelude.{◌≡◌, ◌≤◌, ℕ, Bool, true, false, List, map, filter, sum_by}
use Rattle.std.specs.List.{range_with_len}
use Rattle.station_limits.specs.declared.limits.TheConstants.{HISTORY_LIMIT}
use Rattle.oyster_account.specs.declared.reply.CardState.{CardState}
use Rattle.oyster_account.specs.declared.reply.CardState.TheVariants.{Vacant, Outside, Inside}
use Rattle.oyster_account.specs.declared.reply.Judged.{Judged}
use Rattle.reply_book.specs.Tables.{Tables}
use Rattle.reply_book.specs.View.{view_after}
use Rattle.journal_audit.specs.declared.balances.row.Row.{Row}
use Rattle.journal_audit.specs.Sums.{sums_of, left_in, pence_moved, most_moved}

-- a card in this state was issued
abbrev pub is_issued_in : CardState → Bool
is_issued_in Vacant = false
is_issued_in Outside = true
is_issued_in Inside = true

-- the row is of a card that was issued
abbrev pub is_issued : Row → Bool
is_issued row = is_issued_in row.view.state

-- the row of a card after a history: what is seen of it, and the sums over its accepted touches
abbrev pub row_of : Tables → ℕ → List Judged → ℕ → Row
row_of tables cards history card = record {
  card = card;
  view = view_after tables cards history card;
  sums = sums_of card history;
}

-- the rows of those of the first so many cards that were issued, by ascending number
abbrev pub first_rows : Tables → ℕ → List Judged → ℕ → List Row
first_rows tables cards history count =
    filter is_issued (map (row_of tables cards history) (range_with_len 1 count))

-- the rows of all cards that were issued
abbrev pub rows_of : Tables → ℕ → List Judged → List Row
rows_of tables cards history = first_rows tables cards history cards

-- what was paid in, less what was charged, is what the card holds
abbrev pub IsBalanced : Row → Type 0
IsBalanced row = left_in row.sums ≡ row.view.balance

-- all that the rows' cards moved is within what a longest history moves
abbrev pub AreMeasuredRows : List Row → Type 0
AreMeasuredRows rows = sum_by (λ row. pence_moved row.sums) rows ≤ most_moved HISTORY_LIMIT
