-- That the history of a closed office is a log of all that its desks have learnt, and orders what they answered.
use Rattle.std.proofs.Common.{◌≡◌, ℕ, List, length, take, subst, Result, Ok, Err, IfOk}
use Rattle.std.specs.Prelude.{MatchResult}
use Rattle.std.specs.List.{All}
use Rattle.std.proofs.lemmas.List.Elements.{All-weaker}
use Rattle.reply_book.specs.declared.entry.Entry.{Entry}
use Rattle.reply_book.specs.declared.book.Book.{Book}
use Rattle.reply_book.specs.Book.{entries_of, tables_of, cards_of, Stands}
use Rattle.reply_book.specs.Legal.{IsLegal, history_of}
use Rattle.tap_desk.specs.Desks.{DeskState}
use Rattle.tap_desk.specs.Listed.{BeginsWith, HaveGrownTo}
use Rattle.tap_office.specs.Name.{Opened}
use Rattle.tap_office.specs.Given.{IsGiven}
use Rattle.clerk_calls.specs.Logged.{IsLogOf}
use Rattle.clerk_calls.specs.Listed.{log_by}
use Rattle.clerk_calls.specs.Closed.{IsLogOfSessions, AreOfOneLog, AreInOneOrder}
use Rattle.clerk_calls.proofs.EntryLemmas.{begins-earlier}
use Rattle.clerk_calls.proofs.OfficeLemmas.{begins-length}
use Rattle.clerk_calls.proofs.AnsweredLemmas.{all-said-well, every-order}

-- what is known of a book with which an office is closed
pub record IsClosedWith (opened : Opened) (book : Book) : Type 0 where
  pub tables : IsGiven opened (tables_of book)
  pub stands : Stands book
  pub cards : cards_of book ≡ opened.header.cards
  pub begins : take (length opened.recovered) (entries_of book) ≡ opened.recovered

module _ (opened : Opened) (book : Book) (closed : IsClosedWith opened book) where
  -- its history is legal for the opening's number of cards
  legal : IsLegal (tables_of book) opened.header.cards (history_of (entries_of book))
  legal =
      subst (λ (n : ℕ). IsLegal (tables_of book) n (history_of (entries_of book))) closed.cards closed.stands.legal

  -- such a book has a log of each desk whose points it begins with
  one-log : (desk : DeskState) → HaveGrownTo desk.points (entries_of book)
      → IsLogOfSessions opened (log_by opened (tables_of book) (entries_of book)) desk
  one-log desk grown requests then seen handed sent bytes text served on =
      let log : IsLogOf (log_by opened (tables_of book) (entries_of book)) then.points = record {
        legal = legal;
        begins =
            begins-earlier on.newer then.points (entries_of book)
            (subst (λ (l : List (List Entry)). BeginsWith l (entries_of book)) on.points grown.begins);
      } in
      served (log_by opened (tables_of book) (entries_of book)) log

  pub one-log-of-all : (desks : List DeskState) → All (λ desk. HaveGrownTo desk.points (entries_of book)) desks
      → AreOfOneLog opened book desks
  one-log-of-all desks grown =
      All-weaker (λ (desk : DeskState). HaveGrownTo desk.points (entries_of book))
      (IsLogOfSessions opened (log_by opened (tables_of book) (entries_of book))) one-log desks grown

  -- and orders what these desks answered
  pub one-order : (desks : List DeskState) → All (λ desk. HaveGrownTo desk.points (entries_of book)) desks
      → AreInOneOrder opened book desks
  one-order desks grown lists have =
      let within = begins-length opened.recovered (entries_of book) closed.begins in
      let well = all-said-well opened (tables_of book) closed.tables (entries_of book) lists desks have grown in
      record {
        legal = legal;
        begins = closed.begins;
        order = well.put.all;
        merged = well.put.merged;
        grows = well.put.grows;
        every = λ other merged grows.
            let is = every-order opened (tables_of book) closed.tables (entries_of book) lists well within other merged
            grows in
            record { turns = is.turns; right = is.right; said = is.said };
      }

-- so it is of what an office is closed with
pub closed-by : {X Y : Type 0} (opened : Opened) (desks : List DeskState) (book : X → Book) (End : X → Type 0)
    (Left : Y → Type 0) → ((x : X) → End x → IsClosedWith opened (book x)) → (Says : Book → Type 0)
    → ((b : Book) → IsClosedWith opened b → All (λ desk. HaveGrownTo desk.points (entries_of b)) desks → Says b)
    → (result : Result X Y) → IfOk result (λ x. All (λ desk. HaveGrownTo desk.points (entries_of (book x))) desks)
    → MatchResult result End Left → IfOk result (λ x. Says (book x))
closed-by opened desks book End Left closed Says so (Ok x) learnt end = so (book x) (closed x end) learnt
closed-by opened desks book End Left closed Says so (Err y) learnt end = tt
