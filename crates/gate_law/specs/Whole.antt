-- A station and all its gates, seen together: of each what a crash leaves, and what it takes
-- (PROTOCOL.md, "Names and repeats"; OFFICE.md, "Rounds"; this project's choice).
use Rattle.std.specs.Prelude.{◌≡◌, ℕ, ◌==◌, if◌then◌else◌, Bool, true, false, List, [], ◌∷◌}
use Rattle.std.specs.Prelude.{◌++◌, length}
use Rattle.oyster_account.specs.declared.touch.Touch.{Touch}
use Rattle.oyster_account.specs.declared.reply.Judged.{Judged}
use Rattle.reply_book.specs.declared.entry.Entry.{Entry}
use Rattle.reply_book.specs.declared.entry.Found.TheVariants.{New, Conflict as Other}
use Rattle.reply_book.specs.Tables.{Tables, is_known}
use Rattle.reply_book.specs.Lookup.{found}
use Rattle.gate_session.specs.declared.answer.Answer.{Answer}
use Rattle.gate_session.specs.declared.answer.FaultCode.{FaultCode}
use Rattle.gate_session.specs.declared.answer.FaultCode.TheVariants.{BadFrame, Conflict, Halted}
use Rattle.gate_session.specs.declared.answer.FaultCode.TheVariants.{Memory, Full, UnknownTable}
use Rattle.gate_session.specs.declared.answer.FaultCode.TheVariants.{NotAllowed}
use Rattle.gate_law.specs.Joint.{Joint}

-- a touch for which the gate's caller was told a fault, by its code
pub record Refusal : Type 0 where
  pub touch : Touch
  pub code : ℕ

-- a gate. A crash leaves the touches in its file, oldest first, one that was given up once more
-- right behind itself; it takes away that its program goes on, and whether the last touch waits for
-- its reply. Where it doesn't go on, that is what it was. Its caller was told of these touches that
-- they are done, each with the reply that it was told, and of these a fault
pub record Gate : Type 0 where
  pub file : List Touch
  pub going : Bool
  pub waits : Bool
  pub told : List Judged
  pub refused : List Refusal

-- a station. A crash leaves the touches in its journal; it takes away that its office goes on, by
-- these tables and with this history. Where it doesn't go on, the history is the one that it had
pub record Station : Type 0 where
  pub journal : List Touch
  pub capacity : ℕ
  pub going : Bool
  pub tables : Tables
  pub history : List Entry

-- all gates by their numbers, the touches whose frames were written to the station, by these gates
-- and by others, the station, and the answers whose frames it wrote
pub record Whole : Type 0 where
  pub gates : ℕ → Gate
  pub sent : List Touch
  pub station : Station
  pub answers : List Answer

-- the gates with another one under this number
abbrev pub with_gate : (ℕ → Gate) → ℕ → Gate → ℕ → Gate
with_gate gates number gate other = if other == number then gate else gates other

-- what a gate and the station are together, as gate_law has it
abbrev pub view_by : Gate → Whole → Joint
view_by gate whole = record {
  asked = gate.file;
  waits = gate.waits;
  sent = whole.sent;
  tables = whole.station.tables;
  history = whole.station.history;
  answers = whole.answers;
  told = gate.told;
}

-- and what the gate of this number and the station are
abbrev pub view_of : ℕ → Whole → Joint
view_of number whole = view_by (whole.gates number) whole

-- the touch is the last in the gate's file, and waits
pub record IsWaitingAt (gate : Gate) (touch : Touch) : Type 0 where
  pub earlier : List Touch
  pub last : gate.file ≡ earlier ++ touch ∷ []
  pub waits : gate.waits ≡ true

-- this is why a station gives a touch no reply. That it is halted, or that the touch isn't allowed,
-- may be told of any touch, also of one that stands in the history: it says nothing of that
abbrev pub IsCause : Station → Touch → FaultCode → Type 0
IsCause station touch Conflict = found station.history touch ≡ Other
IsCause station touch UnknownTable =
    (found station.history touch ≡ New) × (is_known station.tables touch ≡ false)
IsCause station touch Full =
    (found station.history touch ≡ New) × (length station.history ≡ station.capacity)
IsCause station touch Memory = found station.history touch ≡ New
IsCause station touch Halted = Unit {0}
IsCause station touch NotAllowed = Unit {0}
IsCause station touch BadFrame = ⊥
