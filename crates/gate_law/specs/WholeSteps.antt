-- What gates and their station do, a step at a time, crashes of either among it (PROTOCOL.md,
-- "Names and repeats"; this project's choice). A message that is lost is a step that doesn't come.
use Rattle.std.specs.Prelude.{◌≡◌, ◌⊎◌, ℕ, ◌+◌, Bool, true, false, List, [], ◌∷◌, ◌++◌, length}
use Rattle.std.specs.Prelude.{is_some}
use Rattle.oyster_account.specs.declared.touch.Touch.{Touch}
use Rattle.oyster_account.specs.declared.reply.Reply.{Reply}
use Rattle.reply_book.specs.declared.entry.Entry.{Entry}
use Rattle.reply_book.specs.declared.entry.Found.TheVariants.{New, First}
use Rattle.reply_book.specs.Tables.{Tables}
use Rattle.reply_book.specs.Lookup.{found}
use Rattle.reply_book.specs.Legal.{IsLegal, history_of, touches_of}
use Rattle.gate_session.specs.declared.answer.Answer.{Answer}
use Rattle.gate_session.specs.declared.answer.Answer.TheVariants as answers
use Rattle.gate_session.specs.declared.answer.FaultCode.{FaultCode}
use Rattle.gate_session.specs.declared.answer.FaultCode.TheVariants.{BadFrame, Halted}
use Rattle.gate_session.specs.declared.answer.FaultCode.TheVariants.{NotAllowed}
use Rattle.gate_session.specs.Answers.{fault_code}
use Rattle.gate_client.specs.File.{waiting_of}
use Rattle.gate_law.specs.Premises.{Line, OneJournal, SameTables, TheLock}
use Rattle.gate_law.specs.Whole.{Gate, Whole, with_gate, IsWaitingAt, IsCause}

-- a gate's file has one touch more, which it was asked for while none waited: it is of this gate,
-- and its number is its place and one
pub record IsAsked (number : ℕ) (gate : Gate) (touch : Touch) : Type 0 where
  pub none : gate.waits ≡ false
  pub own : touch.gate ≡ number
  pub numbered : touch.number ≡ length gate.file + 1

-- a gate keeps one touch more, which then waits
pub record Asks (old new : Whole) : Type 0 where
  pub number : ℕ
  pub touch : Touch
  pub going : (old.gates number).going ≡ true
  pub asked : IsAsked number (old.gates number) touch
  pub is : new ≡ record old {
    gates = with_gate old.gates number (record {
      file = (old.gates number).file ++ touch ∷ [];
      going = true;
      waits = true;
      told = (old.gates number).told;
      refused = (old.gates number).refused;
    });
  }

-- a gate writes the frame of the touch that waits
pub record Sends (old new : Whole) : Type 0 where
  pub number : ℕ
  pub touch : Touch
  pub going : (old.gates number).going ≡ true
  pub waiting : IsWaitingAt (old.gates number) touch
  pub is : new ≡ record old { sent = old.sent ++ touch ∷ [] }

-- somebody else writes the frame of a touch, under a number that no gate has to itself
pub record OthersSend (alone : ℕ → Bool) (old new : Whole) : Type 0 where
  pub touch : Touch
  pub other : alone touch.gate ≡ false
  pub is : new ≡ record old { sent = old.sent ++ touch ∷ [] }

-- the station reads a touch whose name is new, and enters it: its journal has it before anything is
-- answered
pub record Enters (cards : ℕ) (old new : Whole) : Type 0 where
  pub touch : Touch
  pub reply : Reply
  pub seat : ℕ
  pub going : old.station.going ≡ true
  pub line : Line old.sent touch
  pub fresh : found old.station.history touch ≡ New
  pub lock : TheLock cards old.station.tables old.station.history touch reply
  pub is : new ≡ record old {
    station = record {
      journal = old.station.journal ++ touch ∷ [];
      capacity = old.station.capacity;
      going = true;
      tables = old.station.tables;
      history = old.station.history
          ++ record { touch = touch; reply = reply; seat = seat } ∷ [];
    };
  }

-- the station writes the reply that it finds beside a touch: its first answer, or a repeat's
pub record Answers (old new : Whole) : Type 0 where
  pub touch : Touch
  pub place : ℕ
  pub reply : Reply
  pub going : old.station.going ≡ true
  pub first : found old.station.history touch ≡ First place reply
  pub is : new ≡ record old {
    answers = old.answers ++ answers.Reply touch.gate touch.number reply ∷ [];
  }

-- the station writes a fault of a touch that it read, for its cause
pub record Refuses (old new : Whole) : Type 0 where
  pub touch : Touch
  pub fault : FaultCode
  pub line : Line old.sent touch
  pub cause : IsCause old.station touch fault
  pub is : new ≡ record old {
    answers = old.answers
        ++ answers.Fault (fault_code fault) touch.gate touch.number ∷ [];
  }

-- the answer is of no touch: what a card holds, that there is none to tell, that the enquiry isn't
-- allowed, or that the bytes were no frame
abbrev pub IsOfNoTouch : Answer → Type 0
IsOfNoTouch (answers.Reply gate number reply) = ⊥
IsOfNoTouch (answers.Holding view front) = Unit {0}
IsOfNoTouch (answers.Fault code gate number) =
    (code ≡ fault_code BadFrame) ⊎ (code ≡ fault_code Halted) ⊎ (code ≡ fault_code NotAllowed)

-- the station writes an answer that is of no touch
pub record Tells (old new : Whole) : Type 0 where
  pub answer : Answer
  pub of_none : IsOfNoTouch answer
  pub is : new ≡ record old { answers = old.answers ++ answer ∷ [] }

-- a gate reads a reply under the name of the touch that waits, and tells its caller
pub record Hears (old new : Whole) : Type 0 where
  pub number : ℕ
  pub touch : Touch
  pub reply : Reply
  pub going : (old.gates number).going ≡ true
  pub waiting : IsWaitingAt (old.gates number) touch
  pub line : Line old.answers (answers.Reply touch.gate touch.number reply)
  pub is : new ≡ record old {
    gates = with_gate old.gates number (record {
      file = (old.gates number).file;
      going = true;
      waits = false;
      told = (old.gates number).told ++ record { touch = touch; reply = reply } ∷ [];
      refused = (old.gates number).refused;
    });
  }

-- a gate reads a fault under the name of the touch that waits, and tells its caller. The touch
-- waits on
pub record HearsFault (old new : Whole) : Type 0 where
  pub number : ℕ
  pub touch : Touch
  pub code : ℕ
  pub going : (old.gates number).going ≡ true
  pub waiting : IsWaitingAt (old.gates number) touch
  pub line : Line old.answers (answers.Fault code touch.gate touch.number)
  pub is : new ≡ record old {
    gates = with_gate old.gates number (record {
      file = (old.gates number).file;
      going = true;
      waits = true;
      told = (old.gates number).told;
      refused = (old.gates number).refused ++ record { touch = touch; code = code } ∷ [];
    });
  }

-- a gate gives up the touch that waits: its file has that once more, right behind itself, and none
-- waits
pub record GivesUp (old new : Whole) : Type 0 where
  pub number : ℕ
  pub touch : Touch
  pub going : (old.gates number).going ≡ true
  pub waited : IsWaitingAt (old.gates number) touch
  pub is : new ≡ record old {
    gates = with_gate old.gates number (record {
      file = (old.gates number).file ++ touch ∷ [];
      going = true;
      waits = false;
      told = (old.gates number).told;
      refused = (old.gates number).refused;
    });
  }

-- what a crash leaves of a gate's file, with whether the last touch in it waited: what it was, one
-- touch more, that it was being asked for, or the touch that waited once more, which it was giving
-- up
abbrev pub IsLeftOf : ℕ → Gate → List Touch → Bool → Type 0
IsLeftOf number gate left waits = ((left ≡ gate.file) × (waits ≡ gate.waits))
    ⊎ ((touch : Touch) × IsAsked number gate touch × (left ≡ gate.file ++ touch ∷ [])
    × (waits ≡ true))
    ⊎ ((touch : Touch) × IsWaitingAt gate touch × (left ≡ gate.file ++ touch ∷ [])
    × (waits ≡ false))

-- a gate ends or crashes, at any moment, or its disk fails; one that doesn't go on may crash too
pub record GateStops (old new : Whole) : Type 0 where
  pub number : ℕ
  pub left : List Touch
  pub waits : Bool
  pub either : IsLeftOf number (old.gates number) left waits
  pub is : new ≡ record old {
    gates = with_gate old.gates number (record {
      file = left;
      going = false;
      waits = waits;
      told = (old.gates number).told;
      refused = (old.gates number).refused;
    });
  }

-- a gate is opened: the last touch waits, whether or not it was answered, and none where that was
-- given up
pub record GateOpens (old new : Whole) : Type 0 where
  pub number : ℕ
  pub kept : List Touch
  pub one_journal : OneJournal kept (old.gates number).file
  pub is : new ≡ record old {
    gates = with_gate old.gates number (record {
      file = kept;
      going = true;
      waits = is_some (waiting_of kept);
      told = (old.gates number).told;
      refused = (old.gates number).refused;
    });
  }

-- the journal has one touch more than the history: one that the station read, in flight
pub record IsInFlight (sent history journal : List Touch) : Type 0 where
  pub touch : Touch
  pub line : Line sent touch
  pub is : journal ≡ history ++ touch ∷ []

-- what a crash leaves of a journal: the history's touches, or one more, in flight
abbrev pub IsLeftBehind : List Touch → List Touch → List Touch → Type 0
IsLeftBehind sent history left = (left ≡ history) ⊎ IsInFlight sent history left

-- a station ends or crashes, at any moment, or its disk fails at a touch; one that doesn't go on
-- may crash too
pub record StationStops (old new : Whole) : Type 0 where
  pub left : List Touch
  pub either : IsLeftBehind old.sent (touches_of old.station.history) left
  pub is : new ≡ record old {
    station = record {
      journal = left;
      capacity = old.station.capacity;
      going = false;
      tables = old.station.tables;
      history = old.station.history;
    };
  }

-- a station is opened, and judges the touches of its journal by the tables that it is given
pub record StationOpens (cards : ℕ) (old new : Whole) : Type 0 where
  pub tables : Tables
  pub kept : List Entry
  pub going : old.station.going ≡ false
  pub one_journal : OneJournal (touches_of kept) old.station.journal
  pub same_tables : SameTables cards (touches_of old.station.history) old.station.tables tables
  pub legal : IsLegal tables cards (history_of kept)
  pub is : new ≡ record old {
    station = record {
      journal = touches_of kept;
      capacity = old.station.capacity;
      going = true;
      tables = tables;
      history = kept;
    };
  }

-- one step of a gate, of somebody else, or of the station
pub data Step (alone : ℕ → Bool) (cards : ℕ) (old new : Whole) : Type 0 where
  asks : Asks old new → Step alone cards old new
  sends : Sends old new → Step alone cards old new
  others_send : OthersSend alone old new → Step alone cards old new
  hears : Hears old new → Step alone cards old new
  hears_fault : HearsFault old new → Step alone cards old new
  gives_up : GivesUp old new → Step alone cards old new
  gate_stops : GateStops old new → Step alone cards old new
  gate_opens : GateOpens old new → Step alone cards old new
  enters : Enters cards old new → Step alone cards old new
  replies : Answers old new → Step alone cards old new
  refuses : Refuses old new → Step alone cards old new
  tells : Tells old new → Step alone cards old new
  station_stops : StationStops old new → Step alone cards old new
  station_opens : StationOpens cards old new → Step alone cards old new
