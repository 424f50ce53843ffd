use Rattle.std.proofs.Common.{◌≡◌, ◌∙◌, suc, ◌+◌, ◌≤◌, ◌++◌, ◌∷◌, [], true, false, ap, sym, subst, arith}
use Rattle.std.proofs.lemmas.List.{length-append}
use Rattle.std.proofs.lemmas.List.Sums.{sum_by_push}
use Rattle.reply_book.specs.Book.{entries_of, tables_of}
use Rattle.reply_book.specs.Legal.{history_of, IsLegal}
use Rattle.journal_audit.specs.declared.balances.row.Row.{Row}
use Rattle.journal_audit.specs.Sums.{pence_moved}
use Rattle.journal_audit.specs.BalancesRows.{is_issued, row_of}
use Rattle.journal_audit.proofs.AccountLemmas.{next-balanced}
use Rattle.journal_audit.proofs.RowLemmas.{first_rows-issued, first_rows-vacant, balanced-more}
use Rattle.journal_audit.proofs.balances.row.rows_by.Goals.{then-is_issued+else-not-is_balanced+in_ok-push}
use Rattle.journal_audit.proofs.balances.row.rows_by.Goals.{else-is_issued}
use Rattle.journal_audit.proofs.balances.row.rows_by.Goals as goal

-- a card that was issued has a row more, which is balanced, and a vacant one has none
pub loop-place-preserved : goal.loop-place-preserved
loop-place-preserved c =
    let tables = tables_of c.args.book.now in
    let history = history_of (entries_of c.args.book.now) in
    let rows = c.loop-place.rows.items in
    let row = c.row_at-row.result in
    let is : row ≡ row_of tables c.args.cards history (c.loop-place.place + 1) =
    c.row_at-row.ensures.row
    ∙ ap (λ n. row_of tables n history (c.loop-place.place + 1)) c.requires.cards in
    elim c.if-is_issued.branch [
      | then-is_issued+else-not-is_balanced+in_ok-push w ↦
          let more : c.if-is_issued.rows.items ≡ rows ++ row ∷ [] = rw w.rows-is w.in_ok-push.ensures.items in
          rw more (record {
            rows = ap (λ l. l ++ row ∷ []) c.loop-place.invariant.rows
                ∙ sym (first_rows-issued tables c.args.cards history c.loop-place.place row is
                (sym c.is_issued.ensures ∙ w.if-is_issued.true));
            balanced =
                balanced-more rows row c.loop-place.invariant.balanced
                (w.is_balanced.ensures.0 w.if-not-is_balanced.false);
            measured = omega (
              arith,
              sum_by_push (λ (r : Row). pence_moved r.sums) rows row,
              c.loop-place.invariant.measured,
              c.row_at-row.ensures.moved,
            );
            few = omega (arith, length-append rows (row ∷ []), c.loop-place.invariant.few);
          })
      | else-is_issued w ↦
          rw w.rows-is (record {
            rows = c.loop-place.invariant.rows
                ∙ sym (first_rows-vacant tables c.args.cards history c.loop-place.place row is
                (sym c.is_issued.ensures ∙ w.if-is_issued.false));
            balanced = c.loop-place.invariant.balanced;
            measured = omega (arith, c.loop-place.invariant.measured, c.row_at-row.ensures.moved);
            few = omega (arith, c.loop-place.invariant.few);
          })
    ]

-- no row of a card that was issued isn't balanced
pub returns-then-not-is_balanced-clause-fault : goal.returns-then-not-is_balanced-clause-fault
returns-then-not-is_balanced-clause-fault c =
    let tables = tables_of c.args.book.now in
    let history = history_of (entries_of c.args.book.now) in
    let row = c.row_at-row.result in
    let is : row ≡ row_of tables c.args.cards history (c.loop-place.place + 1) =
    c.row_at-row.ensures.row
    ∙ ap (λ n. row_of tables n history (c.loop-place.place + 1)) c.requires.cards in
    let legal : IsLegal tables c.args.cards history =
    subst (λ n. IsLegal tables n history) c.requires.cards c.requires.stands.legal in
    let issued : is_issued row ≡ true = sym c.is_issued.ensures ∙ c.if-is_issued.true in
    let below : suc c.loop-place.place ≤ c.args.cards = omega arith in
    let balanced = next-balanced tables c.args.cards history c.loop-place.place row legal below is issued in
    let told : c.is_balanced.result ≡ true = c.is_balanced.ensures.1 balanced in
    let refused : c.is_balanced.result ≡ false = c.if-not-is_balanced.true in
    absurd cc
