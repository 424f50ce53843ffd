-- What a station does of a request, as the steps of gate_law have it (PROTOCOL.md,
-- "Requests and their answers").
use Rattle.std.specs.Prelude.{◌≡◌, ◌⊎◌, ℕ, false, List, [], ◌∷◌, ◌++◌}
use Rattle.oyster_account.specs.declared.touch.Touch.{Touch}
use Rattle.oyster_account.specs.declared.reply.Reply.{Reply}
use Rattle.reply_book.specs.declared.entry.Entry.{Entry}
use Rattle.reply_book.specs.declared.entry.Found.TheVariants.{New, First}
use Rattle.reply_book.specs.declared.book.Book.{Book}
use Rattle.reply_book.specs.Book.{entries_of, cards_of, tables_of}
use Rattle.reply_book.specs.Tables.{Tables}
use Rattle.reply_book.specs.Lookup.{found}
use Rattle.reply_book.specs.Legal.{IsLegal, history_of}
use Rattle.gate_session.specs.declared.request.Request.{Request}
use Rattle.gate_session.specs.declared.request.Request.TheVariants as requests
use Rattle.gate_session.specs.declared.answer.Answer.{Answer}
use Rattle.gate_session.specs.declared.answer.Answer.TheVariants as answers
use Rattle.gate_session.specs.Frames.{RequestFits}
use Rattle.gate_session.specs.Answers.{AnswerFits}
use Rattle.gate_law.specs.Joint.{Joint}
use Rattle.gate_law.specs.Premises.{TheLock}
use Rattle.gate_law.specs.Steps.{is_reply}

-- a station: its fare tables, how many cards it has, and its history
pub record StationState : Type 0 where
  pub tables : Tables
  pub cards : ℕ
  pub history : List Entry

-- the station with an entry more
abbrev pub with_entry : StationState → Entry → StationState
with_entry station entry = record station { history = station.history ++ entry ∷ [] }

-- the touch is new: it is entered with the account's reply, and answered by that
pub record IsEntered (old new : StationState) (touch : Touch) (answer : Answer) : Type 0 where
  pub reply : Reply
  pub seat : ℕ
  pub fresh : found old.history touch ≡ New
  pub lock : TheLock old.cards old.tables old.history touch reply
  pub grown : new ≡ with_entry old (record { touch = touch; reply = reply; seat = seat })
  pub is : answer ≡ answers.Reply touch.gate touch.number reply

-- the touch stands in the history: it is answered by the reply beside it, and nothing changes
pub record IsRepeated (old new : StationState) (touch : Touch) (answer : Answer) : Type 0 where
  pub place : ℕ
  pub reply : Reply
  pub first : found old.history touch ≡ First place reply
  pub kept : new ≡ old
  pub is : answer ≡ answers.Reply touch.gate touch.number reply

-- the answer is no reply, and nothing changes
pub record IsNoReply (old new : StationState) (answer : Answer) : Type 0 where
  pub none : is_reply answer ≡ false
  pub kept : new ≡ old

-- what a station does of a request
abbrev pub DoesAnswer : StationState → Request → Answer → StationState → Type 0
DoesAnswer old (requests.Touch touch) answer new =
    IsEntered old new touch answer ⊎ IsRepeated old new touch answer ⊎ IsNoReply old new answer
DoesAnswer old (requests.Enquire card) answer new = IsNoReply old new answer

module _ {C : Type 0} (gives : C → Request → Answer → C → Type 0) where
  -- whatever the clerk gives, its station does
  abbrev pub IsStationsClerk : (C → StationState) → Type 0
  IsStationsClerk station = (old new : C) (request : Request) (answer : Answer)
      → gives old request answer new → DoesAnswer (station old) request answer (station new)

  -- whatever the clerk gives to a request whose numbers are of their types has such numbers too
  abbrev pub GivesFitting : Type 0
  GivesFitting = (old new : C) (request : Request) (answer : Answer) → RequestFits request
      → gives old request answer new → AnswerFits answer

-- the clerk does what this station does, in numbers of their types
pub record KeepsStation {C : Type 0} (gives : C → Request → Answer → C → Type 0)
    (station : C → StationState) : Type 0 where
  pub does : IsStationsClerk gives station
  pub fitting : GivesFitting gives

-- the joint state has of the station what this one has, and its history is legal
pub record IsStationOf (cards : ℕ) (s : Joint) (station : StationState) : Type 0 where
  pub tables : s.tables ≡ station.tables
  pub cards_are : station.cards ≡ cards
  pub history : s.history ≡ station.history
  pub legal : IsLegal station.tables station.cards (history_of station.history)

-- the station of a book
abbrev pub station_of : Book → StationState
station_of book = record {
  tables = tables_of book;
  cards = cards_of book;
  history = entries_of book;
}
