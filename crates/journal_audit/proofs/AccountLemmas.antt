-- A row is balanced, and says what the account of its card does.
use Rattle.std.proofs.Common.{◌≡◌, ℕ, zero, suc, ℤ, pos, ◌+◌, ◌≤◌, ◌-ℤ◌, Bool, true, false, cond, nat_lt, nat_le, List}
use Rattle.std.proofs.Common.{[], ◌∷◌, ◌++◌, length, map, reverse, refl, sym, ap, subst, ◌∙◌, arith}
use Rattle.std.specs.Prelude.{sum_by, filter, All}
use Rattle.std.proofs.lemmas.Bool.Decides.{nat_tests}
use Rattle.std.proofs.lemmas.Int.{ints}
use Rattle.std.proofs.lemmas.List.{reverse-append}
use Rattle.std.proofs.lemmas.List.Elements.{filter-append, All-append}
use Rattle.std.proofs.lemmas.List.Sums.{sum_by-cons, sum_by-append}
use Rattle.oyster_account.specs.declared.reply.Judged.{Judged}
use Rattle.oyster_account.specs.declared.reply.CardState.TheVariants.{Vacant}
use Rattle.oyster_account.specs.declared.reply.CardView.{CardView}
use Rattle.oyster_account.specs.declared.touch.Act.{Act}
use Rattle.oyster_account.specs.Balance.{pence_paid, balance, state_of, view}
use Rattle.oyster_account.specs.Balance.{is_issued as is_issued_by}
use Rattle.oyster_account.specs.Charge.{travel_charge}
use Rattle.oyster_account.specs.History.{accepted, counts_for}
use Rattle.oyster_account.specs.Judge.{is_card}
use Rattle.oyster_account.specs.Scheme.{Scheme}
use Rattle.oyster_account.specs.Travel.{travel}
use Rattle.reply_book.specs.Legal.{IsLegal}
use Rattle.reply_book.specs.Tables.{Tables, scheme_after}
use Rattle.reply_book.specs.View.{view_after, no_view}
use Rattle.reply_book.proofs.NameLemmas.{joined}
use Rattle.journal_audit.specs.declared.balances.row.Row.{Row}
use Rattle.journal_audit.specs.Sums.{sums_of, charge_in, left_in}
use Rattle.journal_audit.specs.BalancesRows.{is_issued, is_issued_in, row_of, first_rows, rows_of, IsBalanced}
use Rattle.journal_audit.specs.Account.{IsByAccount}
use Rattle.journal_audit.proofs.RowLemmas.{first_rows-issued, first_rows-vacant}
use Rattle.journal_audit.proofs.HoldingLemmas.{legal-held}

-- ---- what was paid in

-- one element more, kept or not
sum-kept : {X : Type 0} (f : X → ℕ) (b : Bool) (x : X) (ys zs : List X) → sum_by f ys ≡ sum_by f zs
    → sum_by f (ys ++ cond b (x ∷ []) []) ≡ sum_by f (cond b (x ∷ zs) zs)
sum-kept f true x ys zs is =
    omega (arith, sum_by-append f ys (x ∷ []), sum_by-cons f x [], sum_by-cons f x zs, is)
sum-kept f false x ys zs is = omega (arith, sum_by-append f ys [], is)

-- a sum over what passes a test is one, in whichever order
sum-reversed : {X : Type 0} (f : X → ℕ) (p : X → Bool) (xs : List X)
    → sum_by f (filter p (reverse xs)) ≡ sum_by f (filter p xs)
sum-reversed f p [] = refl
sum-reversed f p (x ∷ xs) =
    ap (λ l. sum_by f (filter p l)) (reverse-append (x ∷ []) xs)
    ∙ ap (sum_by f) (filter-append p (reverse xs) (x ∷ []))
    ∙ sum-kept f (p x) x (filter p (reverse xs)) (filter p xs) (sum-reversed f p xs)

sum-mapped : {X Y : Type 0} (g : X → Y) (f : Y → ℕ) (xs : List X) → sum_by f (map g xs) ≡ sum_by (λ x. f (g x)) xs
sum-mapped g f [] = refl
sum-mapped g f (x ∷ xs) =
    omega (arith, sum_by-cons f (g x) (map g xs), sum_by-cons (λ x. f (g x)) x xs, sum-mapped g f xs)

-- the touches of a card paid in what its accepted acts did
paid-in : (card : ℕ) (history : List Judged)
    → (sums_of card history).paid_in ≡ sum_by pence_paid (accepted card history)
unfolding sums_of
paid-in card history =
    sym (sum-mapped (λ (j : Judged). j.touch.act) pence_paid (filter (counts_for card) (reverse history))
    ∙ sum-reversed (λ (j : Judged). pence_paid j.touch.act) (counts_for card) history)

-- ---- what is seen

-- what is seen of a card that there is, by its accepted acts
view-known : (tables : Tables) (cards : ℕ) (history : List Judged) (card : ℕ) → is_card cards card ≡ true
    → view_after tables cards history card ≡ view (scheme_after tables history) (accepted card history)
unfolding view_after
view-known tables cards history card known =
    ap (λ (b : Bool). cond b (view (scheme_after tables history) (accepted card history)) no_view) known

-- a card that is seen as issued has the state and the balance of its acts
view-issued : (scheme : Scheme) (acts : List Act) (seen : CardView) → seen ≡ view scheme acts
    → is_issued_in seen.state ≡ true
    → seen ≡ record { state = state_of (travel scheme acts); balance = balance scheme acts }
view-issued scheme acts seen is issued = by_test (is_issued_by acts) is
  where
    whole : CardView
    whole = record { state = state_of (travel scheme acts); balance = balance scheme acts }

    none : CardView
    none = record { state = Vacant; balance = pos 0 }

    by_test : (b : Bool) → seen ≡ cond b whole none → seen ≡ whole
    by_test true same = same
    by_test false same =
        let vacant : is_issued_in seen.state ≡ false = ap (λ (v : CardView). is_issued_in v.state) same in absurd cc

-- ---- a row

-- the row is that of a card that there is and that was issued
pub record IsRowOf (tables : Tables) (cards : ℕ) (history : List Judged) (row : Row) : Type 0 where
  pub is : row ≡ row_of tables cards history row.card
  pub known : is_card cards row.card ≡ true
  pub issued : is_issued row ≡ true

-- what is charged, where it leaves the same of what was paid in
charge-left : (paid charge : ℕ) (charged : ℤ) → (pos paid -ℤ charged) ≡ (pos paid -ℤ pos charge) → charged ≡ pos charge
charge-left paid charge charged is = omega (arith, ints, is)

-- what is seen of it is by the acts of its card
row-seen : (tables : Tables) (cards : ℕ) (history : List Judged) (row : Row) → IsRowOf tables cards history row
    → row.view ≡ record {
      state = state_of (travel (scheme_after tables history) (accepted row.card history));
      balance = balance (scheme_after tables history) (accepted row.card history);
    }
row-seen tables cards history row own =
    view-issued (scheme_after tables history) (accepted row.card history) row.view
    (ap (λ (r : Row). r.view) own.is ∙ view-known tables cards history row.card own.known) own.issued

-- after a legal history it is balanced
row-balanced : (tables : Tables) (cards : ℕ) (history : List Judged) (row : Row) → IsLegal tables cards history
    → IsRowOf tables cards history row → IsBalanced row
row-balanced tables cards history row legal own =
    ap (λ (r : Row). left_in r.sums) own.is
    ∙ legal-held tables cards history legal row.card
    ∙ sym (ap (λ (v : CardView). v.balance) (row-seen tables cards history row own))

-- where it is balanced, it is by the account of its card
row-account : (tables : Tables) (cards : ℕ) (history : List Judged) (row : Row) → IsRowOf tables cards history row
    → IsBalanced row → IsByAccount tables history row
row-account tables cards history row own balanced =
    let scheme = scheme_after tables history in
    let acts = accepted row.card history in
    let paid : row.sums.paid_in ≡ sum_by pence_paid acts =
    ap (λ (r : Row). r.sums.paid_in) own.is ∙ paid-in row.card history in
    let seen = row-seen tables cards history row own in
    let holds : row.view.balance ≡ balance scheme acts = ap (λ (v : CardView). v.balance) seen in
    record {
      paid_in = paid;
      charged = charge-left row.sums.paid_in (travel_charge scheme (travel scheme acts)) (charge_in row.sums)
          (balanced ∙ holds ∙ ap (λ p. pos p -ℤ pos (travel_charge scheme (travel scheme acts))) (sym paid));
      state = ap (λ (v : CardView). v.state) seen;
      holds = holds;
    }

-- ---- all rows

known-card : (cards count : ℕ) → suc count ≤ cards → is_card cards (count + 1) ≡ true
known-card cards count below =
    let above : nat_lt 0 (count + 1) ≡ true = grind (arith, nat_tests) in
    let within : nat_le (count + 1) cards ≡ true = grind (arith, nat_tests, below) in
    joined (nat_lt 0 (count + 1)) (nat_le (count + 1) cards) above within

-- the row of the next card, where it was issued, is balanced
pub next-balanced : (tables : Tables) (cards : ℕ) (history : List Judged) (count : ℕ) (row : Row)
    → IsLegal tables cards history → suc count ≤ cards → row ≡ row_of tables cards history (count + 1)
    → is_issued row ≡ true → IsBalanced row
next-balanced tables cards history count row legal below is issued =
    subst IsBalanced (sym is)
    (row-balanced tables cards history (row_of tables cards history (count + 1)) legal
    (record {
      is = refl;
      known = known-card cards count below;
      issued = subst (λ (r : Row). is_issued r ≡ true) is issued;
    }))

-- one card more has a row, or none where it wasn't issued
rows-more : (tables : Tables) (cards : ℕ) (history : List Judged) (count : ℕ) → suc count ≤ cards
    → All (IsRowOf tables cards history) (first_rows tables cards history count)
    → All (IsRowOf tables cards history) (first_rows tables cards history (count + 1))
rows-more tables cards history count below before = by_test (is_issued row) refl
  where
    row : Row
    row = row_of tables cards history (count + 1)

    one : IsRowOf tables cards history row → All (IsRowOf tables cards history) (row ∷ [])
    one is zero d within = is
    one is (suc k) d within = absurd (omega arith)

    by_test : (b : Bool) → is_issued row ≡ b
        → All (IsRowOf tables cards history) (first_rows tables cards history (count + 1))
    by_test true issued =
        subst (All (IsRowOf tables cards history)) (sym (first_rows-issued tables cards history count row refl issued))
        (All-append (IsRowOf tables cards history) (first_rows tables cards history count) (row ∷ []) before
        (one (record { is = refl; known = known-card cards count below; issued = issued })))
    by_test false vacant =
        subst (All (IsRowOf tables cards history))
        (sym (first_rows-vacant tables cards history count row refl vacant)) before

rows-are : (tables : Tables) (cards : ℕ) (history : List Judged) (count : ℕ) → count ≤ cards
    → All (IsRowOf tables cards history) (first_rows tables cards history count)
rows-are tables cards history zero below = λ k d within.
    let none : length (first_rows tables cards history zero) ≡ 0 = refl in absurd (omega (arith, none, within))
rows-are tables cards history (suc count) below =
    let one_more : count + 1 ≡ suc count = omega arith in
    subst (λ n. All (IsRowOf tables cards history) (first_rows tables cards history n)) one_more
    (rows-more tables cards history count below (rows-are tables cards history count (omega arith)))

-- balanced rows are by the accounts of their cards
pub rows-account : (tables : Tables) (cards : ℕ) (history : List Judged) → All IsBalanced (rows_of tables cards history)
    → All (IsByAccount tables history) (rows_of tables cards history)
rows-account tables cards history balanced k d within =
    row-account tables cards history _ (rows-are tables cards history cards (omega arith) k d within)
    (balanced k d within)
