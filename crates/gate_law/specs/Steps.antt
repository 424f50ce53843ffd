-- What a gate and its station do, a step at a time (PROTOCOL.md, "Names and repeats"; that one
-- touch waits at a time, with the number of its place, is this project's choice). A message that is
-- lost is a step that doesn't come; a crash of either side is an opening, after whatever it left.
use Rattle.std.specs.Prelude.{◌≡◌, ◌⊎◌, ℕ, ◌+◌, Bool, true, false, List, [], ◌∷◌, ◌++◌, length}
use Rattle.std.specs.Prelude.{is_some}
use Rattle.oyster_account.specs.declared.touch.Touch.{Touch}
use Rattle.oyster_account.specs.declared.reply.Reply.{Reply}
use Rattle.reply_book.specs.declared.entry.Entry.{Entry}
use Rattle.reply_book.specs.declared.entry.Found.TheVariants.{New, First}
use Rattle.reply_book.specs.Tables.{Tables}
use Rattle.reply_book.specs.Lookup.{found}
use Rattle.reply_book.specs.Legal.{IsLegal, history_of, touches_of}
use Rattle.gate_session.specs.declared.answer.Answer.{Answer}
use Rattle.gate_session.specs.declared.answer.Answer.TheVariants as answers
use Rattle.gate_client.specs.File.{waiting_of}
use Rattle.gate_law.specs.Joint.{Joint, IsWaiting}
use Rattle.gate_law.specs.Premises.{Line, Alone, OneJournal, SameTables, TheLock}

-- the gate keeps one touch more, which then waits: none waited, it is of this gate, and its number
-- is its place and one
pub record Asks (gate : ℕ) (old new : Joint) : Type 0 where
  pub touch : Touch
  pub none : old.waits ≡ false
  pub own : touch.gate ≡ gate
  pub number : touch.number ≡ length old.asked + 1
  pub is : new ≡ record old { asked = old.asked ++ touch ∷ []; waits = true }

-- the gate writes the frame of the touch that waits
pub record Sends (old new : Joint) : Type 0 where
  pub touch : Touch
  pub waiting : IsWaiting old touch
  pub is : new ≡ record old { sent = old.sent ++ touch ∷ [] }

-- another gate writes the frame of a touch
pub record OthersSend (gate : ℕ) (old new : Joint) : Type 0 where
  pub touch : Touch
  pub alone : Alone gate touch
  pub is : new ≡ record old { sent = old.sent ++ touch ∷ [] }

-- the station reads a touch whose name is new, and enters it, from some seat. Where the station
-- crashes then, it is the touch in flight
pub record Enters (cards : ℕ) (old new : Joint) : Type 0 where
  pub touch : Touch
  pub reply : Reply
  pub seat : ℕ
  pub line : Line old.sent touch
  pub fresh : found old.history touch ≡ New
  pub lock : TheLock cards old.tables old.history touch reply
  pub is : new ≡ record old {
    history = old.history ++ record { touch = touch; reply = reply; seat = seat } ∷ [];
  }

-- the station writes the reply that it finds beside a touch: its first answer, or a repeat's
pub record Answers (old new : Joint) : Type 0 where
  pub touch : Touch
  pub place : ℕ
  pub reply : Reply
  pub first : found old.history touch ≡ First place reply
  pub is : new ≡ record old {
    answers = old.answers ++ answers.Reply touch.gate touch.number reply ∷ [];
  }

-- the answer is a reply to a touch
abbrev pub is_reply : Answer → Bool
is_reply (answers.Reply gate number reply) = true
is_reply (answers.Holding view front) = false
is_reply (answers.Fault code gate number) = false

-- the station writes an answer that is no reply: a fault, or what a card holds
pub record Tells (old new : Joint) : Type 0 where
  pub answer : Answer
  pub none : is_reply answer ≡ false
  pub is : new ≡ record old { answers = old.answers ++ answer ∷ [] }

-- the gate reads a reply under the name of the touch that waits, and tells its caller
pub record Hears (old new : Joint) : Type 0 where
  pub touch : Touch
  pub gate : ℕ
  pub number : ℕ
  pub reply : Reply
  pub waiting : IsWaiting old touch
  pub line : Line old.answers (answers.Reply gate number reply)
  pub same_gate : gate ≡ touch.gate
  pub same_number : number ≡ touch.number
  pub is : new ≡ record old {
    waits = false;
    told = old.told ++ record { touch = touch; reply = reply } ∷ [];
  }

-- the gate gives up the touch that waits: it keeps that once more, right behind itself, and none
-- waits
pub record GivesUp (old new : Joint) : Type 0 where
  pub touch : Touch
  pub waited : IsWaiting old touch
  pub is : new ≡ record old { asked = old.asked ++ touch ∷ []; waits = false }

-- the gate is opened again: the last touch waits, whether or not it was answered, and none where
-- that was given up
pub record Opens (old new : Joint) : Type 0 where
  pub kept : List Touch
  pub one_journal : OneJournal kept old.asked
  pub is : new ≡ record old { asked = kept; waits = is_some (waiting_of kept) }

-- the station is opened again, and judges the touches that it finds by the tables that it is given
pub record Restarts (cards : ℕ) (old new : Joint) : Type 0 where
  pub tables : Tables
  pub kept : List Entry
  pub one_journal : OneJournal (touches_of kept) (touches_of old.history)
  pub same_tables : SameTables cards (touches_of old.history) old.tables tables
  pub legal : IsLegal tables cards (history_of kept)
  pub is : new ≡ record old { tables = tables; history = kept }

-- one step of the gate, of its station, or of another gate
abbrev pub Step : ℕ → ℕ → Joint → Joint → Type 0
Step gate cards old new =
    Asks gate old new ⊎ Sends old new ⊎ OthersSend gate old new ⊎ Enters cards old new
    ⊎ Answers old new ⊎ Tells old new ⊎ Hears old new ⊎ Opens old new ⊎ Restarts cards old new
    ⊎ GivesUp old new
