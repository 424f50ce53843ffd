-- The calls of a gate's client as steps of its gate (PROOFS.md, "A gate and its station").
use Rattle.std.specs.Prelude.{◌≡◌, ℕ, Bool, List, [], ◌∷◌, ◌++◌, Result, Ok, Err}
use Rattle.oyster_account.specs.declared.touch.Touch.{Touch}
use Rattle.oyster_account.specs.declared.reply.Reply.{Reply}
use Rattle.oyster_account.specs.declared.reply.Judged.{Judged}
use Rattle.tap_disk.specs.declared.disk.Disk.{Ghosts}
use Rattle.gate_session.specs.declared.answer.Answer.TheVariants as answers
use Rattle.gate_law.specs.Premises.{Line}
use Rattle.gate_client.specs.declared.client.Client.{Client}
use Rattle.gate_client.specs.declared.fault.HearFault.{HearFault}
use Rattle.gate_client.specs.declared.fault.HearFault.TheVariants.{NoAnswer, Stray, Refused}
use Rattle.gate_law.specs.Whole.{Gate, Whole, Refusal, with_gate}
use Rattle.gate_law.specs.WholeAgreement.{IsRun}
use Rattle.gate_law.specs.Shown.{IsShownBy}

-- the whole with this gate, and with these touches that were sent more
abbrev pub gone_in : ℕ → Whole → Gate → List Touch → Whole
gone_in number whole gate more =
    record whole { gates = with_gate whole.gates number gate; sent = whole.sent ++ more }

-- there is a run of steps in which nothing but this gate has changed, and what it sent, to where
-- the client shows it; its caller was told these more, and refused these
pub record IsClientRun {D : Type 0} {g : Ghosts D} (alone : ℕ → Bool) (cards number : ℕ)
    (whole : Whole) (client : Client D g) (sent : List Touch) (told : List Judged)
    (refused : List Refusal) : Type 0 where
  pub gate : Gate
  pub between : List Whole
  pub run : IsRun alone cards whole between (gone_in number whole gate sent)
  pub told_is : gate.told ≡ (whole.gates number).told ++ told
  pub refused_is : gate.refused ≡ (whole.gates number).refused ++ refused
  pub shown : IsShownBy number gate client

-- what is told of a reply that was read
abbrev pub told_of : Touch → Result Reply HearFault → List Judged
told_of touch (Ok reply) = record { touch = touch; reply = reply } ∷ []
told_of touch (Err fault) = []

-- and of a fault
abbrev pub refused_of : Touch → Result Reply HearFault → List Refusal
refused_of touch (Ok reply) = []
refused_of touch (Err NoAnswer) = []
refused_of touch (Err Stray) = []
refused_of touch (Err (Refused code)) = record { touch = touch; code = code } ∷ []

-- an answer that was read, under the name of the touch, was written before
abbrev pub IsOnLine : Whole → Touch → Result Reply HearFault → Type 0
IsOnLine whole touch (Ok reply) =
    Line whole.answers (answers.Reply touch.gate touch.number reply)
IsOnLine whole touch (Err NoAnswer) = Unit {0}
IsOnLine whole touch (Err Stray) = Unit {0}
IsOnLine whole touch (Err (Refused code)) =
    Line whole.answers (answers.Fault code touch.gate touch.number)
