-- The turns of a station and what its gates do between them, as one run of all (PROOFS.md, "A gate
-- and its station").
use Rattle.std.specs.Prelude.{◌≡◌, ℕ, Bool, true, List, [], ◌∷◌, ◌++◌, length}
use Rattle.oyster_account.specs.declared.touch.Touch.{Touch}
use Rattle.reply_book.specs.declared.entry.Entry.{Entry}
use Rattle.reply_book.specs.Legal.{IsLegal, history_of}
use Rattle.gate_law.specs.Premises.{Line}
use Rattle.gate_law.specs.Whole.{Station, Whole}
use Rattle.gate_law.specs.WholeAgreement.{IsRun, IsStart, AllAgree}
use Rattle.clerk_calls.specs.Logged.{Log}
use Rattle.clerk_calls.specs.Turns.{replies, refuses, tells, answer_of, Turn, enters, says}
use Rattle.clerk_calls.specs.Turns.{answers_in, office_at, AreTurns}

-- gates and others go on, in a run that leaves the station and its answers as they are
pub record IsPause (alone : ℕ → Bool) (cards : ℕ) (old new : Whole) : Type 0 where
  pub between : List Whole
  pub run : IsRun alone cards old between new
  pub station : new.station ≡ old.station
  pub answers : new.answers ≡ old.answers

-- the touch that is entered or refused was sent; where a reply is written, its touch stands in the
-- history
abbrev pub WasSent : List Touch → Turn → Type 0
WasSent sent (enters entry) = Line sent entry.touch
WasSent sent (says (replies touch reply)) = Unit {0}
WasSent sent (says (refuses touch fault)) = Line sent touch
WasSent sent (says (tells answer)) = Unit {0}

-- the station with one entry more, whose touch its journal has
abbrev pub with_entered : Station → Entry → Station
with_entered station entry = record {
  journal = station.journal ++ entry.touch ∷ [];
  capacity = station.capacity;
  going = true;
  tables = station.tables;
  history = station.history ++ entry ∷ [];
}

-- what the station leaves at a turn
abbrev pub after_turn : Turn → Whole → Whole
after_turn (enters entry) whole = record whole { station = with_entered whole.station entry }
after_turn (says said) whole = record whole { answers = whole.answers ++ answer_of said ∷ [] }

-- the station makes these turns, one after the other, with a pause before each and after the last,
-- and each touch was sent before its turn
abbrev pub IsScheduled : (ℕ → Bool) → ℕ → Whole → List Turn → Whole → Type 0
IsScheduled alone cards old [] new = IsPause alone cards old new
IsScheduled alone cards old (turn ∷ later) new =
    (mid : Whole) × IsPause alone cards old mid × WasSent mid.sent turn
    × IsScheduled alone cards (after_turn turn mid) later new

-- from one state to the other there is a run of steps, after which the station has the whole log,
-- and has written the answers of these turns
pub record IsRunOfTurns (alone : ℕ → Bool) (log : Log) (capacity : ℕ) (old : Whole)
    (turns : List Turn) (new : Whole) : Type 0 where
  pub between : List Whole
  pub run : IsRun alone log.cards old between new
  pub station : new.station ≡ office_at log capacity (length log.entries)
  pub answers : new.answers ≡ old.answers ++ answers_in turns

-- the turns of a station by a legal log are such a run, whatever the gates do in between
abbrev pub AreSchedulesRuns : Type 0
AreSchedulesRuns =
    (alone : ℕ → Bool) (log : Log) (capacity count : ℕ) (old new : Whole) (turns : List Turn)
    → IsLegal log.tables log.cards (history_of log.entries)
    → old.station ≡ office_at log capacity count → AreTurns log capacity count turns
    → IsScheduled alone log.cards old turns new → IsRunOfTurns alone log capacity old turns new

-- so all gates agree with the station then, where they came to its first turn by a run
abbrev pub DoesServerAgree : Type 0
DoesServerAgree =
    (alone : ℕ → Bool) (log : Log) (capacity count : ℕ) (first old new : Whole)
    (between : List Whole) (turns : List Turn)
    → IsLegal log.tables log.cards (history_of log.entries)
    → IsStart alone log.cards first → IsRun alone log.cards first between old
    → old.station ≡ office_at log capacity count → AreTurns log capacity count turns
    → IsScheduled alone log.cards old turns new → AllAgree alone log.cards new
