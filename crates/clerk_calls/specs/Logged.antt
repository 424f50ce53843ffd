-- A clerk that answers from a log to which others add entries too, and its sessions as runs of the
-- steps of gate_law (OFFICE.md, "Seats and receipts"; PROOFS.md, "A gate and its
-- station").
use Rattle.std.specs.Prelude.{◌≡◌, ◌⊎◌, ℕ, ◌≤◌, false, List, ◌∷◌, ◌++◌, take, length, Some}
use Rattle.std.specs.Prelude.{slice_get}
use Rattle.oyster_account.specs.declared.touch.Touch.{Touch}
use Rattle.oyster_account.specs.declared.reply.Reply.{Reply}
use Rattle.reply_book.specs.declared.entry.Entry.{Entry}
use Rattle.reply_book.specs.Tables.{Tables}
use Rattle.reply_book.specs.Legal.{IsLegal, history_of}
use Rattle.gate_session.specs.declared.request.Request.{Request}
use Rattle.gate_session.specs.declared.request.Request.TheVariants as requests
use Rattle.gate_session.specs.declared.answer.Answer.{Answer}
use Rattle.gate_session.specs.declared.answer.Answer.TheVariants as answers
use Rattle.gate_session.specs.Frames.{RequestFits, request_frame}
use Rattle.gate_session.specs.Answers.{AnswerFits, answer_frame}
use Rattle.text_io.specs.Writing.{IsBeginning}
use Rattle.tap_desk.specs.Listed.{BeginsWith}
use Rattle.gate_law.specs.Joint.{Joint}
use Rattle.gate_law.specs.Premises.{Line}
use Rattle.gate_law.specs.Steps.{is_reply}
use Rattle.gate_law.specs.Agreement.{IsRun}
use Rattle.gate_law.specs.Lines.{IsWritten, AreFirstOf}
use Rattle.gate_law.specs.Station.{StationState, IsStationOf, GivesFitting}
use Rattle.gate_law.specs.Sessions.{WereSent, served_in}

-- a log: its entries at the end, the tables by which they were judged, and for how many cards
pub record Log : Type 0 where
  pub tables : Tables
  pub cards : ℕ
  pub entries : List Entry

-- the station when the log had so many entries
abbrev pub station_at : Log → ℕ → StationState
station_at log count = record {
  tables = log.tables;
  cards = log.cards;
  history = take count log.entries;
}

-- a desk with the first of these log points has learnt more, or none, and has the second then
abbrev pub HasLearnt : List (List Entry) → List (List Entry) → Type 0
HasLearnt before after = (newer : List (List Entry)) × (after ≡ newer ++ before)

module _ {C : Type 0} (points : C → List (List Entry)) (seen : C → ℕ) (found : ℕ) where
  -- a touch is answered by the reply that stands beside it in a log point: the clerk learns that
  -- point, and has seen as many entries as it has, not fewer than before, nor than were found at
  -- first
  pub record IsFromPoint (old new : C) (touch : Touch) (answer : Answer) : Type 0 where
    pub point : List Entry
    pub place : ℕ
    pub reply : Reply
    pub seat : ℕ
    pub stands :
        slice_get point place ≡ Some (record { touch = touch; reply = reply; seat = seat })
    pub seen_is : seen new ≡ length point
    pub not_below : seen old ≤ seen new
    pub no_shorter : found ≤ length point
    pub learnt : points new ≡ point ∷ points old
    pub is : answer ≡ answers.Reply touch.gate touch.number reply

  -- what is answered is no reply; a log point may be learnt, by which it was refused
  pub record IsBeside (old new : C) (answer : Answer) : Type 0 where
    pub none : is_reply answer ≡ false
    pub learnt : HasLearnt (points old) (points new)
    pub seen_is : seen new ≡ seen old

  -- what a clerk of a log does of a request
  abbrev pub DoesFromLog : C → Request → Answer → C → Type 0
  DoesFromLog old (requests.Touch touch) answer new =
      IsFromPoint old new touch answer ⊎ IsBeside old new answer
  DoesFromLog old (requests.Enquire card) answer new = IsBeside old new answer

-- whatever the clerk gives, it gives from a log, in numbers of their types
pub record KeepsLog {C : Type 0} (gives : C → Request → Answer → C → Type 0)
    (points : C → List (List Entry)) (seen : C → ℕ) (found : ℕ) : Type 0 where
  pub does : (old new : C) (request : Request) (answer : Answer) → gives old request answer new
      → DoesFromLog points seen found old request answer new
  pub fitting : GivesFitting gives

-- the log is legal, and begins with each of these points
pub record IsLogOf (log : Log) (points : List (List Entry)) : Type 0 where
  pub legal : IsLegal log.tables log.cards (history_of log.entries)
  pub begins : BeginsWith points log.entries

-- the state's station is the log's when that had so many entries, and the touch of each entry
-- behind these was sent
pub record IsLoggedIn (log : Log) (count : ℕ) (s : Joint) : Type 0 where
  pub within : count ≤ length log.entries
  pub shown : IsStationOf log.cards s (station_at log count)
  pub sent : (place : ℕ) (entry : Entry) → count ≤ place
      → slice_get log.entries place ≡ Some entry → Line s.sent entry.touch

-- so many entries are no more than were found at first, or than the clerk has seen
abbrev pub IsBehind : ℕ → ℕ → ℕ → Type 0
IsBehind found seen count = (count ≤ found) ⊎ (count ≤ seen)

-- there is a run of steps from this state to one whose station is the log's at a later time:
-- others' touches are entered, and each request is answered from the log as it is then. The
-- requests that were handed over are the first of those that were written, in their order, and the
-- text is whole frames of the answers that the run adds, and then nothing, or a part of one more
pub record IsLoggedRun (gate : ℕ) (log : Log) (count : ℕ) (s : Joint)
    (written handed : List Request) (sent : List Answer) (text : List ℕ) : Type 0 where
  pub first : AreFirstOf handed written
  pub last : ℕ
  pub grown : count ≤ last
  pub reached : last ≤ length log.entries
  pub between : List Joint
  pub run : IsRun gate log.cards s between (served_in s (station_at log last) sent)
  pub shown : IsStationOf log.cards (served_in s (station_at log last) sent) (station_at log last)
  pub answers : IsWritten AnswerFits answer_frame text sent

-- what was handed over and answered is such a run by this log, from whichever state and count of
-- entries, where the bytes that were read are a beginning of the frames of requests whose touches
-- were sent
abbrev pub IsRunOf : ℕ → ℕ → List Request → List Answer → List ℕ → List ℕ → Log → Type 0
IsRunOf found seen handed sent bytes text log =
    (gate count : ℕ) (s : Joint) (line : List ℕ) (written : List Request)
    → IsLoggedIn log count s → IsBehind found seen count
    → IsWritten RequestFits request_frame line written → IsBeginning bytes line
    → WereSent written s.sent → IsLoggedRun gate log count s written handed sent text

-- so it is by each legal log that begins with these points
abbrev pub IsServedFromLog :
    ℕ → ℕ → List (List Entry) → List Request → List Answer → List ℕ → List ℕ → Type 0
IsServedFromLog found seen points handed sent bytes text =
    (log : Log) → IsLogOf log points → IsRunOf found seen handed sent bytes text log
