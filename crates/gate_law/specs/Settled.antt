-- What stands where a touch was asked, sent over a line in memory, and its reply heard.
use Rattle.std.specs.Prelude.{◌≡◌, ℕ, IsTrue, List, [], ◌∷◌, ◌++◌, Some, None, Result, Ok, Err}
use Rattle.std.specs.Prelude.{false, slice_get}
use Rattle.oyster_account.specs.declared.touch.Touch.{Touch}
use Rattle.oyster_account.specs.declared.reply.Reply.{Reply}
use Rattle.oyster_account.specs.declared.reply.Judged.{Judged}
use Rattle.reply_book.specs.declared.entry.Entry.{Entry}
use Rattle.reply_book.specs.Names.{has_same_name}
use Rattle.reply_book.specs.Legal.{IsLegal, history_of, touches_of}
use Rattle.tap_disk.specs.declared.disk.Disk.{Ghosts}
use Rattle.gate_session.specs.declared.request.Request.{Request}
use Rattle.gate_session.specs.declared.answer.Answer.{Answer}
use Rattle.gate_session.specs.declared.session.Served.{Served}
use Rattle.gate_session.specs.Session.{IsSession}
use Rattle.text_io.specs.Writing.{IsBeginning}
use Rattle.gate_client.specs.declared.client.Client.{Client}
use Rattle.gate_client.specs.File.{waiting_of}
use Rattle.gate_client.specs.Client.{HasAsked, gate_of, waits_of}
use Rattle.gate_law.specs.Joint.{Joint}
use Rattle.gate_law.specs.Agreement.{IsRun, IsStart}
use Rattle.gate_law.specs.Gate.{IsGateOf}
use Rattle.gate_law.specs.Station.{StationState, IsStationOf}

-- the touch stands in the history with this reply, at one place, and nothing else stands under its
-- gate and number
pub record StandsOnce (history : List Entry) (judged : Judged) : Type 0 where
  pub place : ℕ
  pub stands : slice_get (history_of history) place ≡ Some judged
  pub alone : (other : ℕ) (touch : Touch) → slice_get (touches_of history) other ≡ Some touch
      → IsTrue (has_same_name judged.touch touch) → other ≡ place

-- the gate's client has kept these touches, of which this is the last, and isn't given up; it
-- stands once in the station's history, with this reply; and none waits
pub record IsSettled {D : Type 0} {g : Ghosts D} (asked : List Touch) (touch : Touch)
    (reply : Reply) (client : Client D g) (history : List Entry) : Type 0 where
  pub file : HasAsked asked client
  pub last : waiting_of asked ≡ Some touch
  pub once : StandsOnce history (record { touch = touch; reply = reply })
  pub none : waits_of client ≡ None

-- a session with a clerk that read a beginning of these bytes wrote this text
pub record IsServed {C : Type 0} (gives : C → Request → Answer → C → Type 0) (old new : C)
    (bytes text : List ℕ) : Type 0 where
  pub turns : ℕ
  pub served : Served
  pub read : List ℕ
  pub begins : IsBeginning read bytes
  pub is : IsSession gives old new turns served read text

-- no gate and number stands twice in the station's history, and each reply is the account's
abbrev pub HasLegal : StationState → Type 0
HasLegal station = IsLegal station.tables station.cards (history_of station.history)

-- a gate's client and a station, seen together
pub record IsShown {D : Type 0} {g : Ghosts D} (gate cards : ℕ) (s : Joint)
    (client : Client D g) (station : StationState) : Type 0 where
  pub gate_is : IsGateOf gate s client
  pub station_is : IsStationOf cards s station

-- what a gate and this station show before the gate's first touch
abbrev pub first_of : StationState → Joint
first_of station = record {
  asked = [];
  waits = false;
  sent = [];
  tables = station.tables;
  history = station.history;
  answers = [];
  told = [];
}

-- a client that has kept no touch, and this station, which has no entry, are where the law of
-- gate_law begins, and show that state
abbrev pub DoesStart : {D : Type 0} {g : Ghosts D} → Client D g → StationState → Type 0
DoesStart client station = (gate : ℕ) → gate_of client ≡ gate → HasAsked [] client
    → waits_of client ≡ None → station.history ≡ []
    → IsStart gate station.cards (first_of station)
    × IsShown gate station.cards (first_of station) client station

-- what the caller was told before, and this reply to the touch where there is one
abbrev pub told_by : {E : Type 0} → List Judged → Touch → Result Reply E → List Judged
told_by told touch (Ok reply) = told ++ record { touch = touch; reply = reply } ∷ []
told_by told touch (Err fault) = told

-- what came of it is a run of steps from this state, in which the caller is told the reply that was
-- heard, and nothing else
pub record IsRound {D E : Type 0} {g : Ghosts D} (gate cards : ℕ) (s : Joint) (touch : Touch)
    (result : Result Reply E) (client : Client D g) (station : StationState) : Type 0 where
  pub new : Joint
  pub between : List Joint
  pub run : IsRun gate cards s between new
  pub told : new.told ≡ told_by s.told touch result
  pub shown : IsShown gate cards new client station
