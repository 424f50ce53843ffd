-- What the lines of a card of a book print is its statement in the journal.
use Rattle.std.proofs.Common.{◌≡◌, ◌≤◌, ℕ, List, length, sym, ap, ◌∙◌, subst, arith}
use Rattle.std.proofs.lemmas.List.{length-map}
use Rattle.station_limits.specs.declared.limits.TheConstants.{HISTORY_LIMIT}
use Rattle.oyster_account.specs.declared.reply.Judged.{Judged}
use Rattle.oyster_account.specs.declared.reply.CardState.{CardState}
use Rattle.oyster_account.specs.declared.reply.CardState.TheVariants.{Vacant}
use Rattle.oyster_account.specs.History.{accepted, of_card}
use Rattle.oyster_account.specs.Scheme.{Scheme}
use Rattle.oyster_account.specs.Order.{IsInOrder}
use Rattle.oyster_account.specs.Travel.{travel}
use Rattle.reply_book.specs.declared.book.Book.{Book}
use Rattle.reply_book.specs.Book.{Stands, entries_of, tables_of, cards_of, scheme_in}
use Rattle.reply_book.specs.Legal.{history_of, book}
use Rattle.reply_book.specs.Tables.{Tables, scheme_after}
use Rattle.reply_book.specs.View.{view_after}
use Rattle.card_statement.specs.Known.{AreStationsKnown}
use Rattle.command_line.specs.declared.statement.StatementFormat.{StatementFormat}
use Rattle.statement_command.specs.declared.days.Days.{Days}
use Rattle.statement_command.specs.Card.{lines_of, IsPrinted}
use Rattle.statement_command.specs.Journal.{IsEntered, IsStatement, lines_after}
use Rattle.statement_command.proofs.CardLemmas.{few-of_card, order-of_card, known-of_card, lines-of_card}
use Rattle.statement_command.proofs.ReadyLemmas.{book-in_order, book-known, book-scheme}

module _ (tables : Tables) (card : ℕ) (bytes : List ℕ) (given : Book) (is : IsEntered tables card bytes given)
    (state : CardState)
    (seen : state ≡ (view_after (tables_of given) (cards_of given) (history_of (entries_of given)) card).state) where
  -- what is seen of the card in the book is what is seen of it after the touches
  state-is : state ≡ (view_after tables is.h.cards (book tables is.h.cards is.touches) card).state
  state-is =
      seen
      ∙ ap (λ (ts : Tables). (view_after ts (cards_of given) (history_of (entries_of given)) card).state) is.supplied
      ∙ ap (λ (n : ℕ). (view_after tables n (history_of (entries_of given)) card).state) is.count
      ∙ ap (λ (history : List Judged). (view_after tables is.h.cards history card).state) is.history

  -- what the lines of the book's touches print is the card's statement
  pub statement-so : (scheme : Scheme) (days : Days) (format : StatementFormat) (own : List Judged) (text : List ℕ)
      → (state ≡ Vacant → ⊥) → scheme ≡ scheme_in given → own ≡ of_card card (history_of (entries_of given))
      → IsPrinted format (lines_of scheme card days own) text → IsStatement tables card days format bytes text
  statement-so scheme days format own text issued scheme_is own_is printed =
      let history : List Judged = history_of (entries_of given) in
      let by_book : scheme ≡ scheme_after tables (book tables is.h.cards is.touches) =
      scheme_is ∙ sym (book-scheme given is.stands)
      ∙ ap (λ (ts : Tables). scheme_after ts history) is.supplied
      ∙ ap (scheme_after tables) is.history in
      let lines : lines_of scheme card days own ≡ lines_after tables is.h.cards is.touches card days =
      ap (lines_of scheme card days) own_is ∙ lines-of_card scheme card days history
      ∙ ap (λ (s : Scheme). lines_of s card days history) by_book
      ∙ ap (lines_of (scheme_after tables (book tables is.h.cards is.touches)) card days) is.history in
      record {
        version = is.version;
        h = is.h;
        touches = is.touches;
        journal = is.journal;
        entered = is.entered;
        within = is.within;
        issued = λ vacant. issued (state-is ∙ vacant);
        printed = subst (λ l. IsPrinted format l text) lines printed;
      }

-- the touches of a card in a book have what a statement needs
module _ (given : Book) (stands : Stands given) (card : ℕ) (own : List Judged)
    (own_is : own ≡ of_card card (history_of (entries_of given))) where
  pub few-own : length own ≤ HISTORY_LIMIT
  few-own =
      let few : length (entries_of given) ≤ HISTORY_LIMIT = stands.few in
      let history : List Judged = history_of (entries_of given) in
      let long : length history ≡ length (entries_of given) = length-map (entries_of given) (λ entry.
      record { touch = entry.touch; reply = entry.reply }) in
      let fewer : length (of_card card history) ≤ length history = few-of_card card history in
      let same : length own ≡ length (of_card card history) = ap length own_is in
      omega (arith, few, long, fewer, same)

  pub order-own : (scheme : Scheme) → scheme ≡ scheme_in given → IsInOrder (travel scheme (accepted card own))
  order-own scheme is =
      subst (λ (s : Scheme). IsInOrder (travel s (accepted card own))) (sym is)
      (subst (λ (l : List Judged). IsInOrder (travel (scheme_in given) (accepted card l))) (sym own_is)
      (order-of_card (scheme_in given) card (history_of (entries_of given)) (book-in_order given stands card)))

  pub known-own : (scheme : Scheme) → scheme ≡ scheme_in given → AreStationsKnown scheme card own
  known-own scheme is =
      subst (λ (s : Scheme). AreStationsKnown s card own) (sym is)
      (subst (AreStationsKnown (scheme_in given) card) (sym own_is)
      (known-of_card (scheme_in given) card (history_of (entries_of given)) (book-known given stands card)))
