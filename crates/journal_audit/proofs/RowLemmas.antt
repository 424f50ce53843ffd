-- The sums over rows.
use Rattle.std.proofs.Common.{◌≡◌, ℕ, zero, suc, ◌+◌, ◌<◌, ◌≤◌, true, false, cond, List, [], ◌∷◌, ◌++◌, length, get_or}
use Rattle.std.proofs.Common.{take, refl, sym, ap, subst, ◌∙◌, arith, take_all}
use Rattle.std.specs.Prelude.{sum_by, All}
use Rattle.std.proofs.lemmas.Int.{ints}
use Rattle.std.proofs.lemmas.List.Sums.{sum_by-cons, sum_by_more_le}
use Rattle.std.proofs.lemmas.List.{append-nil}
use Rattle.std.proofs.lemmas.List.Elements.{All-append}
use Rattle.std.proofs.lemmas.List.FromFn.{filter_of_map_range_with_len_more}
use Rattle.station_limits.specs.declared.limits.TheConstants.{HISTORY_LIMIT}
use Rattle.oyster_account.specs.declared.reply.Judged.{Judged}
use Rattle.reply_book.specs.Tables.{Tables}
use Rattle.journal_audit.specs.declared.balances.row.Row.{Row}
use Rattle.journal_audit.specs.declared.balances.sums.Sums.{Sums}
use Rattle.journal_audit.specs.Sums.{charge_in, left_in, pence_moved, most_moved}
use Rattle.journal_audit.specs.BalancesRows.{is_issued, row_of, first_rows, IsBalanced, AreMeasuredRows}
use Rattle.journal_audit.specs.Totals.{sum_signed, sums_in, totals_of}

-- three sums over one list are one sum
three-sums : {X : Type 0} (f g h : X → ℕ) (xs : List X)
    → sum_by f xs + sum_by g xs + sum_by h xs ≡ sum_by (λ x. f x + g x + h x) xs
three-sums f g h [] = refl
three-sums f g h (x ∷ xs) =
    omega (
      arith,
      sum_by-cons f x xs,
      sum_by-cons g x xs,
      sum_by-cons h x xs,
      sum_by-cons (λ x. f x + g x + h x) x xs,
      three-sums f g h xs,
    )

-- what the rows' cards moved together
pub moved-in : (rows : List Row) → pence_moved (sums_in rows) ≡ sum_by (λ row. pence_moved row.sums) rows
moved-in rows =
    three-sums (λ (row : Row). row.sums.paid_in) (λ (row : Row). row.sums.taken) (λ (row : Row). row.sums.returned) rows

-- the sums over the rows so far and those of the next are within all
pub moved-room : (rows : List Row) (i : ℕ) (d : Row) → i < length rows → AreMeasuredRows rows
    → pence_moved (sums_in (take i rows)) + pence_moved (get_or rows i d).sums ≤ most_moved HISTORY_LIMIT
moved-room rows i d within measured =
    omega (
      arith,
      moved-in (take i rows),
      sum_by_more_le (λ (row : Row). pence_moved row.sums) rows i d within,
      measured,
    )

-- a signed sum of charges is the sum of what was taken, less the sum of what was given back
pub charges-in : (rows : List Row) → sum_signed (λ row. charge_in row.sums) rows ≡ charge_in (sums_in rows)
charges-in [] = refl
charges-in (row ∷ rows) =
    omega (
      arith,
      ints,
      charges-in rows,
      sum_by-cons (λ (r : Row). r.sums.taken) row rows,
      sum_by-cons (λ (r : Row). r.sums.returned) row rows,
    )

-- where each row is balanced, the sum of what the cards hold is what was paid in less the charge
pub balances-in : (rows : List Row) → All IsBalanced rows
    → sum_signed (λ row. row.view.balance) rows ≡ left_in (sums_in rows)
balances-in [] all = refl
balances-in (row ∷ rows) all =
    let first : left_in row.sums ≡ row.view.balance = all 0 row (omega arith) in
    omega (
      arith,
      ints,
      balances-in rows (λ k d below. all (suc k) d (omega arith)),
      first,
      sum_by-cons (λ (r : Row). r.sums.paid_in) row rows,
      sum_by-cons (λ (r : Row). r.sums.taken) row rows,
      sum_by-cons (λ (r : Row). r.sums.returned) row rows,
    )

-- the sums over all rows
pub moved-all : (rows : List Row) (i : ℕ) → length rows ≤ i → AreMeasuredRows rows
    → pence_moved (sums_in (take i rows)) ≤ most_moved HISTORY_LIMIT
moved-all rows i whole measured =
    subst (λ (l : List Row). pence_moved (sums_in l) ≤ most_moved HISTORY_LIMIT) (sym (take_all i rows whole))
    (omega (arith, moved-in rows, measured))

-- the totals of rows are those of their sums, where each row is balanced
pub totals-by : (rows : List Row) (sums : Sums) → sums ≡ sums_in rows → All IsBalanced rows
    → totals_of rows ≡ record {
      cards = length rows;
      paid_in = sums.paid_in;
      charged = charge_in sums;
      balance = left_in sums;
    }
unfolding totals_of
totals-by rows sums is all =
    let charged = charges-in rows in
    let balance = balances-in rows all in
    cc

-- ---- the rows of the cards so far

-- one card more, which was issued or not
first_rows-more : (tables : Tables) (cards : ℕ) (history : List Judged) (count : ℕ) (row : Row)
    → row ≡ row_of tables cards history (count + 1)
    → first_rows tables cards history (count + 1)
    ≡ first_rows tables cards history count ++ cond (is_issued row) (row ∷ []) []
first_rows-more tables cards history count row is =
    filter_of_map_range_with_len_more is_issued (row_of tables cards history) 1 count (count + 1) (omega arith)
    ∙ ap (λ (r : Row). first_rows tables cards history count ++ cond (is_issued r) (r ∷ []) []) (sym is)

pub first_rows-issued : (tables : Tables) (cards : ℕ) (history : List Judged) (count : ℕ) (row : Row)
    → row ≡ row_of tables cards history (count + 1) → is_issued row ≡ true
    → first_rows tables cards history (count + 1) ≡ first_rows tables cards history count ++ row ∷ []
first_rows-issued tables cards history count row is issued =
    first_rows-more tables cards history count row is
    ∙ ap (λ b. first_rows tables cards history count ++ cond b (row ∷ []) []) issued

pub first_rows-vacant : (tables : Tables) (cards : ℕ) (history : List Judged) (count : ℕ) (row : Row)
    → row ≡ row_of tables cards history (count + 1) → is_issued row ≡ false
    → first_rows tables cards history (count + 1) ≡ first_rows tables cards history count
first_rows-vacant tables cards history count row is vacant =
    first_rows-more tables cards history count row is
    ∙ ap (λ b. first_rows tables cards history count ++ cond b (row ∷ []) []) vacant
    ∙ append-nil (first_rows tables cards history count)

-- one balanced row more
pub balanced-more : (rows : List Row) (row : Row) → All IsBalanced rows → IsBalanced row
    → All IsBalanced (rows ++ row ∷ [])
balanced-more rows row all is = All-append IsBalanced rows (row ∷ []) all (all-one row is)
  where
    all-one : (row : Row) → IsBalanced row → All IsBalanced (row ∷ [])
    all-one row is zero d below = is
    all-one row is (suc k) d below = absurd (omega arith)
