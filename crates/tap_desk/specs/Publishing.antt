-- What contracts see of a publisher, and what holds of it (ENQUIRIES.md; this
-- project's choice).
use Rattle.std.specs.Prelude.{◌≡◌, ◌⊎◌, ℕ, ◌+◌, ◌≤◌, true, Bool, List, [], ◌∷◌, length, map}
use Rattle.std.specs.Prelude.{Option, Some, slice_get}
use Rattle.logbook.specs.Pages.{Book as Logbook}
use Rattle.oyster_account.specs.declared.touch.Touch.{Touch}
use Rattle.oyster_account.specs.declared.reply.CardView.{CardView}
use Rattle.reply_book.specs.declared.entry.Entry.{Entry}
use Rattle.reply_book.specs.declared.book.Book.{Book}
use Rattle.reply_book.specs.Tables.{Tables}
use Rattle.reply_book.specs.Book.{entries_of, cards_of, tables_of, Stands}
use Rattle.reply_book.specs.Legal.{history_of, judge_after}
use Rattle.reply_book.specs.View.{view_after}
use Rattle.tap_desk.specs.declared.shown.Published.{Published}
use Rattle.tap_desk.specs.declared.shown.Update.{Update}
use Rattle.tap_desk.specs.declared.commit_log.CommitLog.{CommitLog}
use Rattle.tap_desk.specs.declared.writer.HeldWriter.{HeldWriter}
use Rattle.tap_desk.specs.CommitLog.{logged, table_of}
use Rattle.tap_desk.specs.CopyVersions.{list_of, IsOf}
use Rattle.tap_desk.specs.Waiting.{shown_of, waits_of, seen_of, OneWaits}

-- the list that is published, and the lists that wait to be
pub record Publication : Type 0 where
  pub list : List Entry
  pub waiting : List (List Entry)

-- the lists of the updates
abbrev pub lists_of : List Update → List (List Entry)
lists_of updates = map (λ update. list_of update.version) updates

-- the entry that a touch from a seat comes to after those of the book
abbrev pub entry_after : Book → Touch → ℕ → Entry
entry_after book touch seat = record {
  touch = touch;
  reply = judge_after (tables_of book) (cards_of book) (history_of (entries_of book)) touch;
  seat = seat;
}

-- the tables and the number of cards are those of the book, which stands
pub record IsTableOf (table : Option (Tables × ℕ)) (book : Book) : Type 0 where
  pub is : table ≡ Some (tables_of book, cards_of book)
  pub stands : Stands book

-- each view is what is seen in the book of the card of that place
abbrev pub IsEachViewOf : Book → List CardView → Type 0
IsEachViewOf book views =
    (place : ℕ) (view : CardView) → slice_get views place ≡ Some view
    → view ≡ view_after (tables_of book) (cards_of book) (history_of (entries_of book)) (place + 1)

-- there is a view for each card of the book, and it is what is seen of that card
pub record AreViewsOf (book : Book) (views : List CardView) : Type 0 where
  pub count : length views ≡ cards_of book
  pub each : IsEachViewOf book views

-- one update waits, and is of the named commit log where the publisher is
pub record IsStaged (shown : Published) (named : Bool) (waiting : List Update) : Type 0 where
  pub one : OneWaits shown waiting
  pub named_too : named ≡ true → one.update.version.named ≡ true

-- the commit log is of what is shown, by the tables of the name, and where it is the named one, it
-- is the name's and the version's; its steps are no more than the entries; the writer saw what is
-- shown; and nothing waits, or one update
pub record IsPublished (logbook : Logbook) (table : Option (Tables × ℕ)) (held : HeldWriter)
    (commit_log : CommitLog) (named : Bool) : Type 0 where
  pub logs : logged commit_log.seen.log ≡ list_of (shown_of held).version
  pub by : table_of commit_log.seen.log ≡ table
  pub version : IsOf logbook table (shown_of held).version
  pub is_named :
      named ≡ true → (commit_log.seen.book ≡ logbook) × ((shown_of held).version.named ≡ true)
  pub steps : commit_log.steps ≤ length (logged commit_log.seen.log)
  pub seen_is : seen_of held ≡ (shown_of held).version ∷ []
  pub waits : (waits_of held ≡ []) ⊎ IsStaged (shown_of held) named (waits_of held)
