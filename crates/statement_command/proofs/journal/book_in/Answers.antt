use Rattle.std.proofs.Common.{List, ℕ, Some, ap, subst, ◌∙◌}
use Rattle.std.proofs.lemmas.Result.{err_from_is_err_and}
use Rattle.reply_book.specs.Legal.{book}
use Rattle.reply_book.specs.Names.{AreNamedOnce}
use Rattle.reply_book.specs.Tables.{tables_in, AreKnown}
use Rattle.tap_journal.specs.Alone.{header_found}
use Rattle.journal_audit.specs.declared.fault.AuditFault.TheVariants.{Journal}
use Rattle.journal_audit.specs.HistoryProgress.{HasRefused as IsRefused}
use Rattle.journal_audit.proofs.AuditLemmas.{refused-alone}
use Rattle.journal_audit.proofs.HistoryLemmas.{journal-read}
use Rattle.statement_command.proofs.journal.book_in.Goals as goal

-- bytes that are no journal are refused for that
pub returns-in_err-found-clause-fault : goal.returns-in_err-found-clause-fault
returns-in_err-found-clause-fault c =
    let p = err_from_is_err_and c.from_residual.result c.from_residual.ensures.1 in
    rw (p.1, p.2) (subst (λ (b : List ℕ). IsRefused (tables_in c.args.schedule) (Some c.args.card) b
    (Journal c.in_err-found.field-0.0)) c.deref.ensures.value
    (refused-alone (Some (tables_in c.args.schedule)) c.deref.result.now (Some c.digest_of_first.result)
    c.in_err-found.field-0.0 (ap (λ (d : List ℕ). Some d) c.digest_of_first.ensures) c.in_err-found.ensures.fault
    c.in_err-found.ensures.discrepancy))

-- the book has the touches that were read, and the card is one of the journal's
pub returns-clause-ok : goal.returns-clause-ok
returns-clause-ok c =
    let tables = tables_in c.args.schedule in
    let found = c.in_ok-found.found in
    let second = c.deref-2.ensures.value in
    let given = c.in_ok-book.ensures in
    record {
      version = found.format;
      h = header_found found;
      touches = found.touches.items;
      journal = journal-read tables found c.deref.result.now c.args.bytes.items c.digest_of_first.result
          c.deref.ensures.value c.in_ok-found.ensures.ok c.in_ok-found.ensures.table c.digest_of_first.ensures;
      entered = (subst AreNamedOnce second given.once, subst (AreKnown tables) second given.known);
      within = c.in_ok-check_card.ensures.ok;
      stands = given.stands;
      history = given.history ∙ ap (book tables found.cards) second;
      supplied = given.tables;
      count = given.cards;
    }
