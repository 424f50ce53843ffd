-- A touch that is settled with a keeper, over bytes in memory: one run of the law over a station
-- and its gates (PROOFS.md, "A gate and its station").
use Rattle.std.specs.Prelude.{◌≡◌, ℕ, Bool, List, [], ◌++◌, Result, Ok, Err}
use Rattle.oyster_account.specs.declared.touch.Touch.{Touch}
use Rattle.oyster_account.specs.declared.reply.Reply.{Reply}
use Rattle.oyster_account.specs.declared.reply.Judged.{Judged}
use Rattle.tap_disk.specs.declared.disk.Disk.{Ghosts}
use Rattle.gate_client.specs.declared.client.Client.{Client}
use Rattle.tap_office.specs.Name.{Opened}
use Rattle.tap_office.specs.Keeper.{KeeperState}
use Rattle.gate_law.specs.Whole.{Whole, Refusal}
use Rattle.gate_law.specs.WholeAgreement.{IsRun}
use Rattle.gate_law.specs.declared.round.NoReplyFault.{NoReplyFault}
use Rattle.gate_law.specs.declared.round.NoReplyFault.TheVariants.{Unsent, Unheard}
use Rattle.gate_law.specs.ClientRuns.{told_of, refused_of}
use Rattle.gate_law.specs.Shown as gates
use Rattle.station_calls.specs.Shown as stations

-- what the gate's caller is told: the touch with its reply, where there is one
abbrev pub told_by : Touch → Result Reply NoReplyFault → List Judged
told_by touch (Ok reply) = told_of touch (Ok reply)
told_by touch (Err fault) = []

-- and the touch with the fault that was heard
abbrev pub refused_by : Touch → Result Reply NoReplyFault → List Refusal
refused_by touch (Ok reply) = []
refused_by touch (Err Unsent) = []
refused_by touch (Err (Unheard fault)) = refused_of touch (Err fault)

-- there is a run of steps to a whole that the client and the keeper show, in which the caller of
-- this gate was told what came of the touch
pub record IsSettling {D K : Type 0} {g : Ghosts D} (honest : K → Type 0)
    (outcome : K → List ℕ → Type 0) (alone : ℕ → Bool) (opened : Opened) (number : ℕ)
    (whole : Whole) (touch : Touch) (result : Result Reply NoReplyFault) (client : Client D g)
    (keeper : KeeperState K) : Type 0 where
  pub last : Whole
  pub between : List Whole
  pub run : IsRun alone opened.header.cards whole between last
  pub told : (last.gates number).told ≡ (whole.gates number).told ++ told_by touch result
  pub refused :
      (last.gates number).refused ≡ (whole.gates number).refused ++ refused_by touch result
  pub gate_shown : gates.IsShownBy number (last.gates number) client
  pub station_shown : stations.IsShownBy honest outcome opened keeper last
