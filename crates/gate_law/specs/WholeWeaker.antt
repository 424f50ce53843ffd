-- Steps of gates and their station that lack a condition of a step in specs/WholeSteps.antt, and
-- what it means that the law doesn't hold with such a step (PROOFS.md, "A gate and its
-- station").
use Rattle.std.specs.Prelude.{◌≡◌, ◌⊎◌, ℕ, Bool, true, false, List, [], ◌∷◌, ◌++◌, is_some}
use Rattle.oyster_account.specs.declared.touch.Touch.{Touch}
use Rattle.oyster_account.specs.declared.reply.Reply.{Reply}
use Rattle.reply_book.specs.declared.entry.Entry.{Entry}
use Rattle.reply_book.specs.declared.entry.Found.TheVariants.{New}
use Rattle.reply_book.specs.Tables.{Tables}
use Rattle.reply_book.specs.Lookup.{found}
use Rattle.reply_book.specs.Legal.{IsLegal, history_of, touches_of}
use Rattle.gate_session.specs.declared.answer.Answer.{Answer}
use Rattle.gate_session.specs.declared.answer.Answer.TheVariants as answers
use Rattle.gate_session.specs.declared.answer.FaultCode.{FaultCode}
use Rattle.gate_session.specs.Answers.{fault_code}
use Rattle.gate_client.specs.File.{waiting_of}
use Rattle.gate_law.specs.Joint.{is_given_up}
use Rattle.gate_law.specs.Premises.{Line, OneJournal, SameTables, TheLock}
use Rattle.gate_law.specs.Whole.{Whole, with_gate, IsWaitingAt}
use Rattle.gate_law.specs.WholeSteps.{Step, HearsFault, GateStops, GateOpens, Enters, Refuses}
use Rattle.gate_law.specs.WholeSteps.{Tells}
use Rattle.gate_law.specs.WholeSteps.{OthersSend, StationStops, StationOpens}
use Rattle.gate_law.specs.WholeAgreement.{IsRun, IsStart, AllAgree}
use Rattle.gate_law.specs.GivenUp.{IsLeftToItself}

-- somebody writes the frame of a touch, under whichever number
pub record AnybodySends (old new : Whole) : Type 0 where
  pub touch : Touch
  pub is : new ≡ record old { sent = old.sent ++ touch ∷ [] }

-- the station enters a touch, and its journal is whatever: as where it answers before its disk has
-- it
pub record EntersUnsynced (cards : ℕ) (old new : Whole) : Type 0 where
  pub touch : Touch
  pub reply : Reply
  pub seat : ℕ
  pub journal : List Touch
  pub going : old.station.going ≡ true
  pub line : Line old.sent touch
  pub fresh : found old.station.history touch ≡ New
  pub lock : TheLock cards old.station.tables old.station.history touch reply
  pub is : new ≡ record old {
    station = record {
      journal = journal;
      capacity = old.station.capacity;
      going = true;
      tables = old.station.tables;
      history = old.station.history
          ++ record { touch = touch; reply = reply; seat = seat } ∷ [];
    };
  }

-- the station writes a fault of a touch that it read, for no cause
pub record RefusesForNothing (old new : Whole) : Type 0 where
  pub touch : Touch
  pub fault : FaultCode
  pub line : Line old.sent touch
  pub is : new ≡ record old {
    answers = old.answers
        ++ answers.Fault (fault_code fault) touch.gate touch.number ∷ [];
  }

-- the station writes any answer
pub record TellsAnything (old new : Whole) : Type 0 where
  pub answer : Answer
  pub is : new ≡ record old { answers = old.answers ++ answer ∷ [] }

-- a gate tells its caller a fault that the station didn't write
pub record HearsUnwrittenFault (old new : Whole) : Type 0 where
  pub number : ℕ
  pub touch : Touch
  pub code : ℕ
  pub going : (old.gates number).going ≡ true
  pub waiting : IsWaitingAt (old.gates number) touch
  pub is : new ≡ record old {
    gates = with_gate old.gates number (record {
      file = (old.gates number).file;
      going = true;
      waits = true;
      told = (old.gates number).told;
      refused = (old.gates number).refused ++ record { touch = touch; code = code } ∷ [];
    });
  }

-- a crash leaves any touches in a gate's file: as where a touch is handed out before the disk has
-- it
pub record GateLoses (old new : Whole) : Type 0 where
  pub number : ℕ
  pub left : List Touch
  pub waits : Bool
  pub is : new ≡ record old {
    gates = with_gate old.gates number (record {
      file = left;
      going = false;
      waits = waits;
      told = (old.gates number).told;
      refused = (old.gates number).refused;
    });
  }

-- a gate is opened, and its last touch waits or not
pub record GateOpensIdle (old new : Whole) : Type 0 where
  pub number : ℕ
  pub waits : Bool
  pub is : new ≡ record old {
    gates = with_gate old.gates number (record {
      file = (old.gates number).file;
      going = true;
      waits = waits;
      told = (old.gates number).told;
      refused = (old.gates number).refused;
    });
  }

-- a gate is opened: the last touch waits, and may wait also where it was given up
pub record GateOpensAgain (old new : Whole) : Type 0 where
  pub number : ℕ
  pub kept : List Touch
  pub waits : Bool
  pub one_journal : OneJournal kept (old.gates number).file
  pub last : is_some (waiting_of kept) ≡ true → waits ≡ true
  pub is : new ≡ record old {
    gates = with_gate old.gates number (record {
      file = kept;
      going = true;
      waits = waits;
      told = (old.gates number).told;
      refused = (old.gates number).refused;
    });
  }

-- a crash leaves any touches in the station's journal
pub record StationLoses (old new : Whole) : Type 0 where
  pub left : List Touch
  pub is : new ≡ record old {
    station = record {
      journal = left;
      capacity = old.station.capacity;
      going = false;
      tables = old.station.tables;
      history = old.station.history;
    };
  }

-- a station is opened with another journal
pub record StationOpensAnother (cards : ℕ) (old new : Whole) : Type 0 where
  pub tables : Tables
  pub kept : List Entry
  pub going : old.station.going ≡ false
  pub same_tables : SameTables cards (touches_of old.station.history) old.station.tables tables
  pub legal : IsLegal tables cards (history_of kept)
  pub is : new ≡ record old {
    station = record {
      journal = touches_of kept;
      capacity = old.station.capacity;
      going = true;
      tables = tables;
      history = kept;
    };
  }

-- each step is also one that lacks its condition; an opening that finds the gate's file, one that
-- lets the last touch wait or not
pub record AreWeaker (alone : ℕ → Bool) (cards : ℕ) (old new : Whole) : Type 0 where
  pub anybody : OthersSend alone old new → AnybodySends old new
  pub unsynced : Enters cards old new → EntersUnsynced cards old new
  pub for_nothing : Refuses old new → RefusesForNothing old new
  pub anything : Tells old new → TellsAnything old new
  pub unwritten : HearsFault old new → HearsUnwrittenFault old new
  pub gate_loses : GateStops old new → GateLoses old new
  pub opens_idle : (opens : GateOpens old new) → opens.kept ≡ (old.gates opens.number).file
      → GateOpensIdle old new
  pub opens_again : GateOpens old new → GateOpensAgain old new
  pub station_loses : StationStops old new → StationLoses old new
  pub another_journal : StationOpens cards old new → StationOpensAnother cards old new

-- a run of steps with another kind beside them
abbrev pub IsRunWith :
    (Whole → Whole → Type 0) → (ℕ → Bool) → ℕ → Whole → List Whole → Whole → Type 0
IsRunWith weaker alone cards old [] new = new ≡ old
IsRunWith weaker alone cards old (next ∷ later) new =
    (Step alone cards old next ⊎ weaker old next) × IsRunWith weaker alone cards next later new

-- with such a step beside the others, a run of a station of these tables ends where not all agree
pub record DoesBreak (tables : Tables) (weaker : ℕ → Whole → Whole → Type 0) : Type 0 where
  pub alone : ℕ → Bool
  pub cards : ℕ
  pub first : Whole
  pub last : Whole
  pub between : List Whole
  pub by : first.station.tables ≡ tables
  pub starts : IsStart alone cards first
  pub runs : IsRunWith (weaker cards) alone cards first between last
  pub differs : AllAgree alone cards last → ⊥

-- with such a step beside the others, a run of a station of these tables goes on from where a gate
-- has given up a touch to where that wasn't left to itself
pub record DoesComeBack (tables : Tables) (weaker : ℕ → Whole → Whole → Type 0) : Type 0 where
  pub alone : ℕ → Bool
  pub cards : ℕ
  pub gate : ℕ
  pub number : ℕ
  pub first : Whole
  pub mid : Whole
  pub last : Whole
  pub before : List Whole
  pub after : List Whole
  pub by : first.station.tables ≡ tables
  pub starts : IsStart alone cards first
  pub is_alone : alone gate ≡ true
  pub until : IsRun alone cards first before mid
  pub given_up : is_given_up (mid.gates gate).file number ≡ true
  pub runs : IsRunWith (weaker cards) alone cards mid after last
  pub differs : IsLeftToItself gate number mid last → ⊥
