-- What a station does at its turns, one after the other, by a log (OFFICE.md, "Closing"; PROOFS.md,
-- "A gate and its station").
use Rattle.std.specs.Prelude.{◌≡◌, ℕ, ◌+◌, true, List, [], ◌∷◌, length, map, take, Some}
use Rattle.std.specs.Prelude.{slice_get}
use Rattle.oyster_account.specs.declared.touch.Touch.{Touch}
use Rattle.oyster_account.specs.declared.reply.Reply.{Reply}
use Rattle.reply_book.specs.declared.entry.Entry.{Entry}
use Rattle.reply_book.specs.Legal.{touches_of}
use Rattle.gate_session.specs.declared.answer.Answer.{Answer}
use Rattle.gate_session.specs.declared.answer.Answer.TheVariants as answers
use Rattle.gate_session.specs.declared.answer.FaultCode.{FaultCode}
use Rattle.gate_session.specs.Answers.{fault_code}
use Rattle.gate_law.specs.Whole.{Station, IsCause}
use Rattle.gate_law.specs.WholeSteps.{IsOfNoTouch}
use Rattle.clerk_calls.specs.Logged.{Log}

-- what a station says by an answer: the reply to a touch, the refusal of a touch, or an answer of
-- no touch
pub data Said : Type 0 where
  replies : Touch → Reply → Said
  refuses : Touch → FaultCode → Said
  tells : Answer → Said

-- the answer by which it says that
abbrev pub answer_of : Said → Answer
answer_of (replies touch reply) = answers.Reply touch.gate touch.number reply
answer_of (refuses touch fault) = answers.Fault (fault_code fault) touch.gate touch.number
answer_of (tells answer) = answer

-- what a station does at a turn: it enters an entry, or writes an answer
pub data Turn : Type 0 where
  enters : Entry → Turn
  says : Said → Turn

-- what is said at these turns, in their order
abbrev pub said_in : List Turn → List Said
said_in [] = []
said_in (enters entry ∷ later) = said_in later
said_in (says said ∷ later) = said ∷ said_in later

-- the answers that are written at these turns, in their order
abbrev pub answers_in : List Turn → List Answer
answers_in turns = map answer_of (said_in turns)

-- a station of this capacity that goes on, when the log had so many entries
abbrev pub office_at : Log → ℕ → ℕ → Station
office_at log capacity count = record {
  journal = touches_of (take count log.entries);
  capacity = capacity;
  going = true;
  tables = log.tables;
  history = take count log.entries;
}

-- the reply stands beside the touch in these entries
pub record StandsBeside (entries : List Entry) (touch : Touch) (reply : Reply) : Type 0 where
  pub place : ℕ
  pub seat : ℕ
  pub stands :
      slice_get entries place ≡ Some (record { touch = touch; reply = reply; seat = seat })

-- what is said is right when the log has so many entries: a reply stands beside its touch, and a
-- touch is refused for its cause then
abbrev pub IsSaidAt : Log → ℕ → ℕ → Said → Type 0
IsSaidAt log capacity count (replies touch reply) =
    StandsBeside (take count log.entries) touch reply
IsSaidAt log capacity count (refuses touch fault) =
    IsCause (office_at log capacity count) touch fault
IsSaidAt log capacity count (tells answer) = IsOfNoTouch answer

-- the turn is right when the log has so many entries: what is entered is the log's next entry
abbrev pub IsTurn : Log → ℕ → ℕ → Turn → Type 0
IsTurn log capacity count (enters entry) = slice_get log.entries count ≡ Some entry
IsTurn log capacity count (says said) = IsSaidAt log capacity count said

-- how many entries the log has after a turn
abbrev pub count_after : ℕ → Turn → ℕ
count_after count (enters entry) = count + 1
count_after count (says said) = count

-- each of these turns is right, from so many entries of the log on to all of them
abbrev pub AreTurns : Log → ℕ → ℕ → List Turn → Type 0
AreTurns log capacity count [] = count ≡ length log.entries
AreTurns log capacity count (turn ∷ later) =
    IsTurn log capacity count turn × AreTurns log capacity (count_after count turn) later
