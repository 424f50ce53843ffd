use Rattle.std.proofs.Common.{ap, ◌∙◌}
use Rattle.oyster_account.specs.Scheme.{scheme_of}
use Rattle.reply_book.specs.Tables.{tables_in}
use Rattle.statement_command.proofs.JournalLemmas.{statement-so, few-own, order-own, known-own}
use Rattle.statement_command.proofs.journal.text_of.Goals as goal

pub text_of_card-requires-clause-few : goal.text_of_card-requires-clause-few
text_of_card-requires-clause-few c =
    few-own c.in_ok-book.book (c.in_ok-book.ensures.ok).stands c.args.card c.deref.result.now
    (c.deref.ensures.value ∙ c.in_ok-touches.ensures)

pub text_of_card-requires-clause-order : goal.text_of_card-requires-clause-order
text_of_card-requires-clause-order c =
    order-own c.in_ok-book.book (c.in_ok-book.ensures.ok).stands c.args.card c.deref.result.now
    (c.deref.ensures.value ∙ c.in_ok-touches.ensures) (scheme_of c.schedule.result.now)
    (ap scheme_of c.schedule.ensures)

pub text_of_card-requires-clause-known : goal.text_of_card-requires-clause-known
text_of_card-requires-clause-known c =
    known-own c.in_ok-book.book (c.in_ok-book.ensures.ok).stands c.args.card c.deref.result.now
    (c.deref.ensures.value ∙ c.in_ok-touches.ensures) (scheme_of c.schedule.result.now)
    (ap scheme_of c.schedule.ensures)

-- what is printed of the card's touches in the book is its statement
pub returns-clause-ok : goal.returns-clause-ok
returns-clause-ok c =
    let entered = c.in_ok-book.ensures.ok in
    statement-so (tables_in c.args.schedule) c.args.card c.args.bytes.items c.in_ok-book.book entered
    c.view.result.state (ap (λ view. view.state) (c.view.ensures entered.stands)) (scheme_of c.schedule.result.now)
    c.args.days c.args.format c.deref.result.now c.in_ok-text_of_card.field-0.items c.in_default.not-Vacant
    (ap scheme_of c.schedule.ensures) (c.deref.ensures.value ∙ c.in_ok-touches.ensures) c.in_ok-text_of_card.ensures
