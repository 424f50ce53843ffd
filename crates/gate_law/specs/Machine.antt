-- One account machine, which is asked a touch at a time and gives the reply at once. What all gates
-- and their station do, over lines and through crashes, is what this machine does (PROOFS.md,
-- "A gate and its station"; this project's choice).
use Rattle.std.specs.Prelude.{◌≡◌, ◌⊎◌, ℕ, ◌==◌, Bool, true, IsTrue, List, [], ◌∷◌, ◌++◌, filter}
use Rattle.std.specs.Prelude.{Contains}
use Rattle.oyster_account.specs.declared.touch.Touch.{Touch}
use Rattle.oyster_account.specs.declared.reply.Reply.{Reply}
use Rattle.oyster_account.specs.declared.reply.Judged.{Judged}
use Rattle.reply_book.specs.Names.{has_same_name}
use Rattle.reply_book.specs.Tables.{Tables}
use Rattle.reply_book.specs.Legal.{history_of, touches_in, judge_after}
use Rattle.gate_law.specs.Agreement.{AreInOrder}
use Rattle.gate_law.specs.Whole.{Whole}
use Rattle.gate_law.specs.WholeSteps.{Step}
use Rattle.gate_law.specs.WholeAgreement.{IsRun, IsStart}

-- a machine: the touches that it was asked, oldest first, each with the reply that it gave
pub record Machine : Type 0 where
  pub history : List Judged

-- the replies that the machine gave to a gate, oldest first
abbrev pub replies_to : ℕ → Machine → List Judged
replies_to gate machine = filter (λ judged. judged.touch.gate == gate) machine.history

-- ask(gate, touch) → reply: in one step the machine is asked a touch under a gate and number that
-- are new, and gives the account's judgement of it after all that it was asked before
pub record IsAsk (tables : Tables) (cards : ℕ) (touch : Touch) (reply : Reply) (old new : Machine)
    : Type 0 where
  pub fresh :
      (other : Judged) → Contains old.history other
      → IsTrue (has_same_name touch other.touch) → ⊥
  pub judged : reply ≡ judge_after tables cards old.history touch
  pub is : new ≡ record {
    history = old.history ++ record { touch = touch; reply = reply } ∷ [];
  }

-- the machine is asked these touches, one after the other, and gives these replies
abbrev pub AreAsks : Tables → ℕ → Machine → List Judged → Machine → Type 0
AreAsks tables cards old [] new = new ≡ old
AreAsks tables cards old (judged ∷ later) new =
    (next : Machine) × IsAsk tables cards judged.touch judged.reply old next
    × AreAsks tables cards next later new

-- the machine that a station is: its history, with each reply
abbrev pub machine_of : Whole → Machine
machine_of whole = record { history = history_of whole.station.history }

-- a step of gates and station is one ask of the machine, by the station's tables, or none
abbrev pub IsAskOrNone : ℕ → Whole → Whole → Type 0
IsAskOrNone cards old new =
    (machine_of new ≡ machine_of old)
    ⊎ ((touch : Touch) × (reply : Reply)
    × IsAsk new.station.tables cards touch reply (machine_of old) (machine_of new))

-- after every run each further step is one ask of the machine or none
abbrev pub IsEachStepAtomic : Type 0
IsEachStepAtomic =
    (alone : ℕ → Bool) (cards : ℕ) (old mid new : Whole) (between : List Whole)
    → IsStart alone cards old → IsRun alone cards old between mid → Step alone cards mid new
    → IsAskOrNone cards mid new

-- what came of a run is what the machine gave. Between the two states it was asked these touches,
-- one after the other, by the tables that the station has at the end. What the caller of a gate was
-- told is a part of the replies that the machine gave to that gate; and these are replies to the
-- touches in the gate's file, in their order, to all of them or to all but the last, which waits,
-- but for those that the gate has given up: to these it gave a reply or none, at any place
pub record IsOfMachine (alone : ℕ → Bool) (cards : ℕ) (old new : Whole) : Type 0 where
  pub asked : List Judged
  pub run : AreAsks new.station.tables cards (machine_of old) asked (machine_of new)
  pub told : (gate : ℕ) (judged : Judged) → alone gate ≡ true
      → Contains (new.gates gate).told judged
      → Contains (replies_to gate (machine_of new)) judged
  pub order : (gate : ℕ) → alone gate ≡ true
      → AreInOrder (touches_in (replies_to gate (machine_of new))) (new.gates gate).file
      (new.gates gate).waits

-- so it is after every run
abbrev pub IsEachRunOfMachine : Type 0
IsEachRunOfMachine =
    (alone : ℕ → Bool) (cards : ℕ) (old new : Whole) (between : List Whole)
    → IsStart alone cards old → IsRun alone cards old between new → IsOfMachine alone cards old new
