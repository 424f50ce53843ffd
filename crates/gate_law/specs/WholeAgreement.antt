-- What always holds of a station and all its gates, whatever they do and lose (PROOFS.md, "A
-- gate and its station"; this project's choice).
use Rattle.std.specs.Prelude.{◌≡◌, ◌≢◌, ℕ, Bool, true, false, List, [], ◌∷◌, Contains}
use Rattle.oyster_account.specs.declared.touch.Touch.{Touch}
use Rattle.oyster_account.specs.declared.reply.Reply.{Reply}
use Rattle.oyster_account.specs.declared.reply.Judged.{Judged}
use Rattle.reply_book.specs.Legal.{IsLegal, history_of, touches_of}
use Rattle.gate_session.specs.declared.answer.Answer.TheVariants as answers
use Rattle.gate_session.specs.declared.answer.FaultCode.TheVariants.{Conflict}
use Rattle.gate_session.specs.Answers.{fault_code}
use Rattle.gate_law.specs.Joint.{Joint}
use Rattle.gate_law.specs.Agreement.{Agrees}
use Rattle.gate_law.specs.Agreement.{IsRun as IsRunOfOne}
use Rattle.gate_law.specs.Whole.{Gate, Whole, Refusal, view_of}
use Rattle.gate_law.specs.WholeSteps.{Step, IsLeftBehind}

-- a run of steps, from the first state over these to the last
abbrev pub IsRun : (ℕ → Bool) → ℕ → Whole → List Whole → Whole → Type 0
IsRun alone cards old [] new = new ≡ old
IsRun alone cards old (next ∷ later) new =
    Step alone cards old next × IsRun alone cards next later new

-- a gate that was asked nothing: its file is empty, or isn't made yet
pub record IsBlank (gate : Gate) : Type 0 where
  pub file : gate.file ≡ []
  pub waits : gate.waits ≡ false
  pub told : gate.told ≡ []
  pub refused : gate.refused ≡ []

-- no gate was asked anything, and the station has a legal history, which its journal has. Neither
-- in that nor on the way to it is a touch under a number that a gate has to itself, nor was a reply
-- or a conflict written under one
pub record IsStart (alone : ℕ → Bool) (cards : ℕ) (whole : Whole) : Type 0 where
  pub blank : (number : ℕ) → IsBlank (whole.gates number)
  pub sent : (touch : Touch) → Contains whole.sent touch → alone touch.gate ≡ false
  pub legal : IsLegal whole.station.tables cards (history_of whole.station.history)
  pub others :
      (touch : Touch) → Contains (touches_of whole.station.history) touch
      → alone touch.gate ≡ false
  pub journal : whole.station.journal ≡ touches_of whole.station.history
  pub unanswered : (gate number : ℕ) (reply : Reply) → alone gate ≡ true
      → Contains whole.answers (answers.Reply gate number reply) → ⊥
  pub no_conflict : (gate number : ℕ) → alone gate ≡ true
      → Contains whole.answers (answers.Fault (fault_code Conflict) gate number) → ⊥

-- from one state of a gate and its station to another there is a run of gate_law
pub record LeadsTo (gate cards : ℕ) (old new : Joint) : Type 0 where
  pub between : List Joint
  pub run : IsRunOfOne gate cards old between new

-- a station and all its gates agree: each gate that has its number to itself agrees with the
-- station, as gate_law has it; the disk has each touch of which its caller was told that it is
-- done, whether or not the station goes on; and its caller was never told a conflict. The journal
-- has the history's touches, or one more where the station doesn't go on
pub record AllAgree (alone : ℕ → Bool) (cards : ℕ) (whole : Whole) : Type 0 where
  pub each : (number : ℕ) → alone number ≡ true → Agrees number cards (view_of number whole)
  pub durable : (number : ℕ) (judged : Judged) → alone number ≡ true
      → Contains (whole.gates number).told judged
      → Contains whole.station.journal judged.touch
  pub never_conflict : (number : ℕ) (refusal : Refusal) → alone number ≡ true
      → Contains (whole.gates number).refused refusal → refusal.code ≢ fault_code Conflict
  pub going : whole.station.going ≡ true
      → whole.station.journal ≡ touches_of whole.station.history
  pub left : IsLeftBehind whole.sent (touches_of whole.station.history) whole.station.journal

-- after every run all gates agree with their station
abbrev pub DoAllAgree : Type 0
DoAllAgree =
    (alone : ℕ → Bool) (cards : ℕ) (old new : Whole) (between : List Whole)
    → IsStart alone cards old → IsRun alone cards old between new → AllAgree alone cards new

-- of every run, what each gate and the station do together is a run of gate_law
abbrev pub IsEachARun : Type 0
IsEachARun =
    (alone : ℕ → Bool) (cards : ℕ) (old new : Whole) (between : List Whole)
    → IsStart alone cards old → IsRun alone cards old between new → (number : ℕ)
    → alone number ≡ true
    → LeadsTo number cards (view_of number old) (view_of number new)
