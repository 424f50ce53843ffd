-- The tries of a settling as steps of their gate, among what others do meanwhile (PROOFS.md, "A
-- gate and its station").
use Rattle.std.specs.Prelude.{◌≡◌, ℕ, Bool, true, false, List, [], ◌∷◌, ◌++◌, map, Option, Some}
use Rattle.std.specs.Prelude.{Result, Ok, Err}
use Rattle.oyster_account.specs.declared.touch.Touch.{Touch}
use Rattle.oyster_account.specs.declared.reply.Reply.{Reply}
use Rattle.oyster_account.specs.declared.reply.Judged.{Judged}
use Rattle.tap_disk.specs.declared.disk.Disk.{Ghosts}
use Rattle.gate_client.specs.declared.client.Client.{Client}
use Rattle.gate_client.specs.declared.fault.HearFault.{HearFault}
use Rattle.gate_client.specs.declared.fault.HearFault.TheVariants.{NoAnswer}
use Rattle.gate_client.specs.declared.attempt.TryFault.{TryFault}
use Rattle.gate_client.specs.declared.attempt.TryFault.TheVariants.{Unreached, Cut, Unheard}
use Rattle.gate_client.specs.declared.settling.Line.{Line}
use Rattle.gate_client.specs.declared.settling.SettleFault.{SettleFault}
use Rattle.gate_client.specs.SettleTexts.{IsAnswer, last_answer}
use Rattle.gate_client.specs.Tries.{Try, result_of, AreTries}
use Rattle.gate_law.specs.Whole.{Gate, Whole, Refusal, with_gate}
use Rattle.gate_law.specs.WholeAgreement.{IsRun}
use Rattle.gate_law.specs.Shown.{IsShownBy}
use Rattle.gate_law.specs.ClientRuns.{told_of, refused_of, IsOnLine}

-- what a try sent of the law: the touch, where all of its frame was written
abbrev pub sent_by : Touch → Result Reply TryFault → List Touch
sent_by t (Ok reply) = t ∷ []
sent_by t (Err (Unheard fault)) = t ∷ []
sent_by t (Err Cut) = []
sent_by t (Err Unreached) = []

-- what a try heard: nothing, where it read nothing
abbrev pub heard_by : Result Reply TryFault → Result Reply HearFault
heard_by (Ok reply) = Ok reply
heard_by (Err (Unheard fault)) = Err fault
heard_by (Err Cut) = Err NoAnswer
heard_by (Err Unreached) = Err NoAnswer

-- whether the touch waits on after a try
abbrev pub waits_on : Result Reply TryFault → Bool
waits_on (Ok reply) = false
waits_on (Err fault) = true

-- the whole once a try has written its frame
abbrev pub sent_in : Touch → Result Reply TryFault → Whole → Whole
sent_in t result whole = record whole { sent = whole.sent ++ sent_by t result }

-- a gate that goes on, once its caller was told what a try heard
abbrev pub gate_after : Touch → Result Reply TryFault → Gate → Gate
gate_after t result gate = record {
  file = gate.file;
  going = true;
  waits = waits_on result;
  told = gate.told ++ told_of t (heard_by result);
  refused = gate.refused ++ refused_of t (heard_by result);
}

-- and the whole with it
abbrev pub heard_in : ℕ → Touch → Result Reply TryFault → Whole → Whole
heard_in number t result whole = record whole {
  gates = with_gate whole.gates number (gate_after t result (whole.gates number));
}

-- others do some steps, or none, which leave this gate as it is
pub record IsAmong (alone : ℕ → Bool) (cards number : ℕ) (old new : Whole) : Type 0 where
  pub between : List Whole
  pub run : IsRun alone cards old between new
  pub same : new.gates number ≡ old.gates number

-- a try with this result, among what others do before its frame is written, and then before its
-- answer is read. What it read had been written: the premise Line
pub record IsTryAmong (alone : ℕ → Bool) (cards number : ℕ) (t : Touch)
    (result : Result Reply TryFault) (old new : Whole) : Type 0 where
  pub ready : Whole
  pub before : IsAmong alone cards number old ready
  pub answered : Whole
  pub meanwhile : IsAmong alone cards number (sent_in t result ready) answered
  pub line : IsOnLine answered t (heard_by result)
  pub is : new ≡ heard_in number t result answered

-- tries with these results one after the other, among what others do before, between and behind
-- them
abbrev pub AreTriesAmong :
    (ℕ → Bool) → ℕ → ℕ → Touch → List (Result Reply TryFault) → Whole → Whole → Type 0
AreTriesAmong alone cards number t [] old new = IsAmong alone cards number old new
AreTriesAmong alone cards number t (result ∷ later) old new = (next : Whole)
    × IsTryAmong alone cards number t result old next
    × AreTriesAmong alone cards number t later next new

-- what the gate's caller is told of the tries, and for which faults of the station
abbrev pub told_by : Touch → List (Result Reply TryFault) → List Judged
told_by t [] = []
told_by t (result ∷ later) = told_of t (heard_by result) ++ told_by t later

abbrev pub refused_by : Touch → List (Result Reply TryFault) → List Refusal
refused_by t [] = []
refused_by t (result ∷ later) = refused_of t (heard_by result) ++ refused_by t later

-- what the gate's caller is told of a settling: the reply that it returns
abbrev pub told_at_end : {L : Type 0} → Touch → Result (Reply × L) SettleFault → List Judged
told_at_end t (Ok done) = record { touch = t; reply = done.0 } ∷ []
told_at_end t (Err fault) = []

-- the last that the gate's caller is refused is this fault of the touch
pub record IsLastRefused (t : Touch) (fault : SettleFault) (refused : List Refusal)
    : Type 0 where
  pub earlier : List Refusal
  pub code : ℕ
  pub last : refused ≡ earlier ++ record { touch = t; code = code } ∷ []
  pub is : last_answer code ≡ Some fault

module _ {D : Type 0} {g : Ghosts D} where
  -- from one state to the other there is a run of the law, in which the gate's caller was told
  -- these more, and refused these; and the client shows the gate then
  pub record IsRunAmong (alone : ℕ → Bool) (cards number : ℕ) (old new : Whole)
      (client : Client D g) (told : List Judged) (refused : List Refusal) : Type 0 where
    pub between : List Whole
    pub run : IsRun alone cards old between new
    pub told_is : (new.gates number).told ≡ (old.gates number).told ++ told
    pub refused_is : (new.gates number).refused ≡ (old.gates number).refused ++ refused
    pub shown : IsShownBy number (new.gates number) client

  -- tries with these results are steps of the gate that the client shows, whatever others do
  abbrev pub AreSteps :
      Touch → List (Result Reply TryFault) → Client D g → Client D g → Type 0
  AreSteps t tried old new = (alone : ℕ → Bool) (cards number : ℕ) (first last : Whole)
      → IsShownBy number (first.gates number) old
      → AreTriesAmong alone cards number t tried first last
      → IsRunAmong alone cards number first last new (told_by t tried) (refused_by t tried)

  -- a settling is its tries, and these are steps of the gate. Its caller is told the reply that is
  -- returned and no other, and where a fault of the station is, that is the last one refused
  pub record IsSettling {R W : Type 0} (remaining : R → Option (List ℕ))
      (contents : W → Option (List ℕ)) (Made : Line R W → Type 0) (t : Touch) (tries : ℕ)
      (line : Option (Line R W)) (result : Result (Reply × Line R W) SettleFault)
      (old new : Client D g) : Type 0 where
    pub tried : List (Try R W)
    pub are : AreTries remaining contents Made t tries line tried result
    pub steps : AreSteps t (map (λ one. result_of one) tried) old new
    pub told : told_by t (map (λ one. result_of one) tried) ≡ told_at_end t result
    pub refused : (fault : SettleFault) → result ≡ Err fault → IsAnswer fault
        → IsLastRefused t fault (refused_by t (map (λ one. result_of one) tried))
