-- What a client shows of its gate, and what a disk may hold of the gate's file (PROOFS.md, "A
-- gate and its station").
use Rattle.std.specs.Prelude.{◌≡◌, ℕ, Bool, true, false, List, [], None, is_some}
use Rattle.oyster_account.specs.declared.touch.Touch.{Touch}
use Rattle.tap_disk.specs.declared.disk.Disk.{Ghosts}
use Rattle.tap_journal.specs.Layout.{Header}
use Rattle.tap_journal.specs.Image.{Image}
use Rattle.tap_journal.specs.Left.{AllLeft}
use Rattle.gate_client.specs.declared.client.Client.{Client}
use Rattle.gate_client.specs.Client.{HasAsked, gate_of, waits_of, is_stopped, disk_of, header_in}
use Rattle.gate_law.specs.Whole.{Gate}
use Rattle.gate_law.specs.WholeSteps.{IsLeftOf}

-- the content is a file of what a crash may leave of this gate: of its touches, or of these and one
-- that was being asked for, or the one that waited once more, which was being given up
pub record IsInFile (h : Header) (number : ℕ) (gate : Gate) (content : List ℕ) : Type 0 where
  pub left : List Touch
  pub waits : Bool
  pub either : IsLeftOf number gate left waits
  pub image : Image h left content

-- the client is the program of a gate that goes on: one waits where one waits in the client
pub record GoesOn {D : Type 0} {g : Ghosts D} (gate : Gate) (client : Client D g) : Type 0 where
  pub going : gate.going ≡ true
  pub waits : gate.waits ≡ is_some (waits_of client)

-- the client is the program of a gate that has ended, since its disk has failed: it does nothing
-- until its file is opened again. None waits in the client, whether or not one waited in the gate
pub record HasEnded {D : Type 0} {g : Ghosts D} (gate : Gate) (client : Client D g) : Type 0 where
  pub ended : gate.going ≡ false
  pub none : waits_of client ≡ None

-- the client is the program of this gate: it has kept the touches of the gate's file, and the gate
-- goes on unless the client's disk has failed. Whatever a crash may leave of that disk is a file of
-- what it may leave of the gate
pub record IsShownBy {D : Type 0} {g : Ghosts D} (number : ℕ) (gate : Gate) (client : Client D g)
    : Type 0 where
  pub number_is : gate_of client ≡ number
  pub asked : HasAsked gate.file client
  pub goes : is_stopped client ≡ false → GoesOn gate client
  pub ended : is_stopped client ≡ true → HasEnded gate client
  pub left : g.honest (disk_of client)
      → AllLeft (g.outcome (disk_of client)) (IsInFile (header_in client) number gate)

-- a gate that was asked nothing, whose program goes on
abbrev pub blank : Gate
blank = record { file = []; going = true; waits = false; told = []; refused = [] }
