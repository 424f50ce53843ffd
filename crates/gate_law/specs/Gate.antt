-- What a client shows of the joint state of a gate and its station, and what each step of the gate
-- makes of that state (PROOFS.md, "A gate and its station").
use Rattle.std.specs.Prelude.{◌≡◌, ℕ, true, false, [], ◌∷◌, ◌++◌, is_some}
use Rattle.oyster_account.specs.declared.touch.Touch.{Touch}
use Rattle.oyster_account.specs.declared.reply.Reply.{Reply}
use Rattle.tap_disk.specs.declared.disk.Disk.{Ghosts}
use Rattle.gate_client.specs.declared.client.Client.{Client}
use Rattle.gate_client.specs.File.{waiting_of}
use Rattle.gate_client.specs.Client.{HasAsked, gate_of, waits_of}
use Rattle.gate_law.specs.Joint.{Joint}

-- the state's touches are those that the client of this gate has kept, and one waits in the state
-- where one waits in the client
pub record IsGateOf {D : Type 0} {g : Ghosts D} (gate : ℕ) (s : Joint) (client : Client D g)
    : Type 0 where
  pub number : gate_of client ≡ gate
  pub asked : HasAsked s.asked client
  pub waits : s.waits ≡ is_some (waits_of client)

-- a step leads from one state to the next, which the client shows
pub record LeadsTo {D : Type 0} {g : Ghosts D} (step : Joint → Joint → Type 0) (gate : ℕ)
    (old new : Joint) (client : Client D g) : Type 0 where
  pub is : step old new
  pub shown : IsGateOf gate new client

-- the state with a touch more that was asked, and that waits
abbrev pub asked_in : Joint → Touch → Joint
asked_in s touch = record s { asked = s.asked ++ touch ∷ []; waits = true }

-- the state with a touch more that was sent
abbrev pub sent_in : Joint → Touch → Joint
sent_in s touch = record s { sent = s.sent ++ touch ∷ [] }

-- the state in which the reply to a touch was told, and none waits
abbrev pub heard_in : Joint → Touch → Reply → Joint
heard_in s touch reply = record s {
  waits = false;
  told = s.told ++ record { touch = touch; reply = reply } ∷ [];
}

-- the state in which a touch was given up, and none waits
abbrev pub given_up_in : Joint → Touch → Joint
given_up_in s touch = record s { asked = s.asked ++ touch ∷ []; waits = false }

-- the state with the touches that it had, of which the last waits, where it isn't given up
abbrev pub opened_in : Joint → Joint
opened_in s = record s { asked = s.asked; waits = is_some (waiting_of s.asked) }
