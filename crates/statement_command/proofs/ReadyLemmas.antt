-- The touches of a book have what a statement of a card needs.
use Rattle.std.proofs.Common.{◌≡◌, ℕ, Bool, true, false, cond, ◌&&◌, ◌<◌, List, length, take, get_or, refl, sym}
use Rattle.std.proofs.Common.{ap, ◌∙◌}
use Rattle.std.proofs.Common.{pos, subst, inl, inr}
use Rattle.std.proofs.lemmas.Bool.{cases_Bool}
use Rattle.std.proofs.lemmas.Option.{slice_get-get_or}
use Rattle.oyster_account.specs.declared.touch.Touch.{Touch}
use Rattle.oyster_account.specs.declared.touch.Act.{Act}
use Rattle.oyster_account.specs.declared.touch.Act.TheVariants.{Enter, Leave, TopUp, Issue, Revise}
use Rattle.oyster_account.specs.declared.reply.Judged.{Judged}
use Rattle.oyster_account.specs.declared.reply.Reply.{Reply}
use Rattle.oyster_account.specs.declared.verdict.Refusal.TheVariants.{UnknownCard}
use Rattle.oyster_account.specs.Touch.{is_of}
use Rattle.oyster_account.specs.History.{accepted, is_accepted, counts_for}
use Rattle.oyster_account.specs.Scheme.{Scheme}
use Rattle.oyster_account.specs.Judge.{judge, card_reply, is_card, refused, reply_for}
use Rattle.oyster_account.specs.Travel.{travel}
use Rattle.oyster_account.specs.Order.{IsInOrder}
use Rattle.reply_book.specs.declared.book.Book.{Book}
use Rattle.reply_book.specs.Book.{Stands, entries_of, tables_of, cards_of, schedule_of, scheme_in}
use Rattle.reply_book.specs.Legal.{history_of, judge_after}
use Rattle.reply_book.specs.Tables.{Tables, scheme_after, scheme_by, revisions_after}
use Rattle.reply_book.proofs.OrderLemmas.{legal-orderly}
use Rattle.card_statement.specs.Known.{IsActKnown, AreStationsKnown}
use Rattle.card_statement.proofs.KnownLemmas.{accepted-known}
use Rattle.statement_command.proofs.StationLemmas.{known-by}

-- a touch of a card that is accepted is at a known station, or at none
card-known : (scheme : Scheme) (cards : ℕ) (history : List Judged) (touch : Touch)
    → is_accepted (card_reply scheme cards history touch) ≡ true → IsActKnown scheme touch.act
card-known scheme cards history touch taken =
    elim (cases_Bool (is_card cards touch.card)) [
      | inl there ↦ accepted-known scheme (accepted touch.card history) touch.act
          (ap is_accepted (sym (by_test (is_card cards touch.card) there)) ∙ taken)
      | inr none ↦ absurd (let is : is_accepted (refused UnknownCard (pos 0)) ≡ true =
          ap is_accepted (sym (by_none (is_card cards touch.card) none)) ∙ taken in cc)
    ]
  where
    judged : Reply
    judged = judge scheme (accepted touch.card history) touch.act

    by_test : (b : Bool) → b ≡ true → cond b judged (refused UnknownCard (pos 0)) ≡ judged
    by_test true is = refl
    by_test false is = absurd cc

    by_none : (b : Bool) → b ≡ false → cond b judged (refused UnknownCard (pos 0)) ≡ refused UnknownCard (pos 0)
    by_none false is = refl
    by_none true is = absurd cc

-- so is any touch that is accepted
act-known : (scheme : Scheme) (cards : ℕ) (history : List Judged) (touch : Touch) (act : Act)
    → touch.act ≡ act
    → is_accepted (reply_for scheme cards history touch act) ≡ true → IsActKnown scheme act
act-known scheme cards history touch (Enter station moment) is taken =
    subst (IsActKnown scheme) is (card-known scheme cards history touch taken)
act-known scheme cards history touch (Leave station moment) is taken =
    subst (IsActKnown scheme) is (card-known scheme cards history touch taken)
act-known scheme cards history touch (TopUp pence moment) is taken = tt
act-known scheme cards history touch (Issue moment) is taken = tt
act-known scheme cards history touch (Revise day moment digest) is taken = tt

second : (a b : Bool) → (a && b) ≡ true → b ≡ true
second true b is = is
second false b is = absurd cc

-- the scheme in force by a book is that after its history
pub book-scheme : (given : Book) → Stands given
    → scheme_after (tables_of given) (history_of (entries_of given)) ≡ scheme_in given
book-scheme given stands = ap (λ revisions. scheme_by (tables_of given) revisions) (sym stands.revised)

module _ (given : Book) (stands : Stands given) (card : ℕ) where
  abbrev history : List Judged
  history = history_of (entries_of given)

  abbrev tables : Tables
  tables = tables_of given

  pub book-in_order : IsInOrder (travel (scheme_in given) (accepted card (history_of (entries_of given))))
  book-in_order =
      subst (λ (s : Scheme). IsInOrder (travel s (accepted card history))) (book-scheme given stands)
      (legal-orderly tables (cards_of given) history stands.legal card)

  one-known : (place : ℕ) (d : Judged) → place < length history → counts_for card (get_or history place d) ≡ true
      → IsActKnown (scheme_in given) (get_or history place d).touch.act
  one-known place d below counts =
      let one : Judged = get_or history place d in
      let before : List Judged = take place history in
      let reply : one.reply ≡ judge_after tables (cards_of given) before one.touch =
      stands.legal.replies place one (slice_get-get_or history place d below) in
      let taken : is_accepted (judge_after tables (cards_of given) before one.touch) ≡ true =
      ap is_accepted (sym reply) ∙ second (is_of card one.touch) (is_accepted one.reply) counts in
      subst (λ (s : Scheme). IsActKnown s one.touch.act) (book-scheme given stands)
      (known-by (schedule_of given) (revisions_after before) (revisions_after history) one.touch.act
      (act-known (scheme_after tables before) (cards_of given) before one.touch one.touch.act refl taken))

  pub book-known : AreStationsKnown (scheme_in given) card (history_of (entries_of given))
  book-known place d below counts = one-known place d below counts
