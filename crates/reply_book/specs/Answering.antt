-- What comes of a touch that a book answers (PROTOCOL.md, "Requests and their answers"; this
-- project's choice).
use Rattle.std.specs.Prelude.{◌≡◌, ◌≤◌, ◌<◌, ◌+◌, ℕ, true, false, List, [], ◌∷◌, ◌++◌, length}
use Rattle.std.specs.Prelude.{Result, Ok, Err}
use Rattle.station_limits.specs.declared.limits.TheConstants.{HISTORY_LIMIT}
use Rattle.oyster_account.specs.declared.touch.Touch.{Touch}
use Rattle.oyster_account.specs.declared.reply.Reply.{Reply}
use Rattle.reply_book.specs.declared.entry.Entry.{Entry}
use Rattle.reply_book.specs.declared.entry.Found.TheVariants.{New, First}
use Rattle.reply_book.specs.declared.entry.Found.TheVariants.{Conflict as Other}
use Rattle.reply_book.specs.declared.answering.Answered.{Answered}
use Rattle.reply_book.specs.declared.answering.Answered.TheVariants.{Entered, Repeated}
use Rattle.reply_book.specs.declared.answering.AnswerFault.{AnswerFault}
use Rattle.reply_book.specs.declared.answering.AnswerFault.TheVariants.{Conflict, UnknownTable}
use Rattle.reply_book.specs.declared.answering.AnswerFault.TheVariants.{Full, Memory}
use Rattle.reply_book.specs.declared.book.Book.{Book}
use Rattle.reply_book.specs.Tables.{is_known}
use Rattle.reply_book.specs.Lookup.{found}
use Rattle.reply_book.specs.Legal.{history_of, judge_after}
use Rattle.reply_book.specs.Book.{entries_of, cards_of, tables_of, room_of, HasRoom, Stands}

-- the touch has a gate and number that no entry has, and is no revision to a table that isn't there
pub record IsToBeJudged (book : Book) (touch : Touch) : Type 0 where
  pub fresh : found (entries_of book) touch ≡ New
  pub known : is_known (tables_of book) touch ≡ true

-- the touch is judged after the entries, of which there are fewer than a history may have, and its
-- place is behind them
pub record IsDue (book : Book) (touch : Touch) (place : ℕ) (reply : Reply) : Type 0 where
  pub judged : IsToBeJudged book touch
  pub few : length (entries_of book) < HISTORY_LIMIT
  pub behind : place ≡ length (entries_of book)
  pub judgement : reply
      ≡ judge_after (tables_of book) (cards_of book) (history_of (entries_of book)) touch

-- this comes of a touch after the book's entries: a new one is judged; an equal touch is a repeat
-- of the first reply, and another one a conflict; a new revision to a table that isn't there has no
-- reply, nor has another new touch where the history is full, or where there was no room for it
abbrev pub ComesOf : Book → Touch → Result Answered AnswerFault → Type 0
ComesOf book touch (Ok (Entered place reply)) = IsDue book touch place reply
ComesOf book touch (Ok (Repeated place reply)) =
    found (entries_of book) touch ≡ First place reply
ComesOf book touch (Err Conflict) = found (entries_of book) touch ≡ Other
ComesOf book touch (Err UnknownTable) =
    (found (entries_of book) touch ≡ New) × (is_known (tables_of book) touch ≡ false)
ComesOf book touch (Err Full) =
    IsToBeJudged book touch × (length (entries_of book) ≡ HISTORY_LIMIT)
ComesOf book touch (Err Memory) =
    IsToBeJudged book touch × (length (entries_of book) < HISTORY_LIMIT)
    × (HasRoom book touch → ⊥)

-- the entries after it: with the touch, its reply and its seat where it was new and got a reply
abbrev pub entries_after : List Entry → Touch → ℕ → Result Answered AnswerFault → List Entry
entries_after entries touch seat (Ok (Entered place reply)) =
    entries ++ record { touch = touch; reply = reply; seat = seat } ∷ []
entries_after entries touch seat (Ok (Repeated place reply)) = entries
entries_after entries touch seat (Err fault) = entries

-- the touch was answered: this comes of it, and the book has the entries after it, the cards and
-- tables that it had, and at most one entry's room less
pub record IsAnswered (old : Book) (touch : Touch) (seat : ℕ) (given : Result Answered AnswerFault)
    (new : Book) : Type 0 where
  pub outcome : ComesOf old touch given
  pub entries : entries_of new ≡ entries_after (entries_of old) touch seat given
  pub cards : cards_of new ≡ cards_of old
  pub tables : tables_of new ≡ tables_of old
  pub stands : Stands new
  pub room : room_of old ≤ room_of new + 1
