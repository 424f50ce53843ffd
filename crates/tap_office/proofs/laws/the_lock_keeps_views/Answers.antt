use Rattle.std.proofs.Common.{subst, ◌∙◌}
use Rattle.reply_book.specs.Book.{entries_of, tables_of}
use Rattle.reply_book.specs.Legal.{history_of}
use Rattle.reply_book.specs.View.{view_after}
use Rattle.tap_office.specs.Given.{IsViewFor}
use Rattle.tap_office.specs.Keeper.{KeeperState}
use Rattle.tap_office.proofs.laws.the_lock_keeps_views.Goals as goal

-- the book's view of the card, by the opening's tables
pub returns : goal.returns
returns g c =
    let o = g.N.Named.opened in
    let book = c.keeper.inside.book in
    let kept = c.keeper.invariant.0 in
    subst (λ (k : KeeperState g.row.D.Denot). IsViewFor o (history_of k.history) c.args.card c.view.result)
    c.keeper.view_is
    (record {
      tables = tables_of book;
      given = kept.tables;
      is = c.view.ensures kept.legal
          ∙ (λ i. view_after (tables_of book) (kept.cards i) (history_of (entries_of book)) c.args.card);
    })
