-- A whole session of gate_session as a run of steps of gate_law (PROOFS.md, "A gate and its
-- station").
use Rattle.std.specs.Prelude.{ℕ, List, ◌++◌, Contains}
use Rattle.oyster_account.specs.declared.touch.Touch.{Touch}
use Rattle.gate_session.specs.declared.request.Request.{Request}
use Rattle.gate_session.specs.declared.request.Request.TheVariants as requests
use Rattle.gate_session.specs.declared.answer.Answer.{Answer}
use Rattle.gate_session.specs.declared.session.Served.{Served}
use Rattle.gate_session.specs.Frames.{RequestFits, request_frame}
use Rattle.gate_session.specs.Answers.{AnswerFits, answer_frame}
use Rattle.gate_session.specs.Session.{IsSession}
use Rattle.text_io.specs.Writing.{IsBeginning}
use Rattle.gate_law.specs.Joint.{Joint}
use Rattle.gate_law.specs.Premises.{Line}
use Rattle.gate_law.specs.Agreement.{IsRun}
use Rattle.gate_law.specs.Lines.{IsWritten, AreFirstOf}
use Rattle.gate_law.specs.Station.{StationState, IsStationsClerk, GivesFitting, IsStationOf}

-- each touch among these requests was sent
abbrev pub WereSent : List Request → List Touch → Type 0
WereSent written sent = (touch : Touch) → Contains written (requests.Touch touch)
    → Line sent touch

-- the state with this station's history, and with these answers more
abbrev pub served_in : Joint → StationState → List Answer → Joint
served_in s station sent = record s {
  history = station.history;
  answers = s.answers ++ sent;
}

-- the session is a run from this state: of the requests that were written the first were handed
-- over, in their order, and the text is whole frames of the answers that the run adds, and then
-- nothing, or a part of one more
pub record IsSessionRun (gate cards : ℕ) (s : Joint) (station : StationState)
    (written handed : List Request) (text : List ℕ) : Type 0 where
  pub first : AreFirstOf handed written
  pub sent : List Answer
  pub between : List Joint
  pub run : IsRun gate cards s between (served_in s station sent)
  pub shown : IsStationOf cards (served_in s station sent) station
  pub answers : IsWritten AnswerFits answer_frame text sent

-- each session of a station's clerk is such a run, where it read a beginning of the bytes that
-- frames of requests make, and each touch among these was sent
abbrev pub AreSessionsRuns : {C : Type 0} → (C → Request → Answer → C → Type 0) → Type 0
AreSessionsRuns {C = C} gives =
    (station : C → StationState) → IsStationsClerk gives station → GivesFitting gives
    → (gate cards turns : ℕ) (old new : C) (served : Served) (bytes text line : List ℕ)
    (written : List Request) (s : Joint)
    → (is : IsSession gives old new turns served bytes text)
    → IsWritten RequestFits request_frame line written → IsBeginning bytes line
    → WereSent written s.sent → IsStationOf cards s (station old)
    → IsSessionRun gate cards s (station new) written is.exchange.handed text
