-- A gate and a station that came by a run of steps to where they are, through any number of calls
-- and crashes (PROOFS.md, "A gate and its station"; this project's choice).
use Rattle.std.specs.Prelude.{◌≡◌, ℕ, Bool, List, []}
use Rattle.tap_disk.specs.declared.disk.Disk.{Ghosts}
use Rattle.gate_client.specs.declared.client.Client.{Client}
use Rattle.tap_office.specs.Name.{Opened}
use Rattle.tap_office.specs.Opening.{OpeningState}
use Rattle.tap_office.specs.Keeper.{KeeperState}
use Rattle.gate_law.specs.Whole.{Whole}
use Rattle.gate_law.specs.WholeAgreement.{IsRun}
use Rattle.gate_law.specs.Shown as gates
use Rattle.gate_law.specs.Shown.{blank}
use Rattle.station_calls.specs.Shown as stations
use Rattle.station_calls.specs.Openings.{station_found}

-- from this first state of all gates a run of steps leads to one that the client and the keeper
-- show
pub record IsReached {D K : Type 0} {g : Ghosts D} (honest : K → Type 0)
    (outcome : K → List ℕ → Type 0) (alone : ℕ → Bool) (opened : Opened) (number : ℕ)
    (first : Whole) (client : Client D g) (keeper : KeeperState K) : Type 0 where
  pub last : Whole
  pub between : List Whole
  pub run : IsRun alone opened.header.cards first between last
  pub gate_shown : gates.IsShownBy number (last.gates number) client
  pub station_shown : stations.IsShownBy honest outcome opened keeper last

-- from this first state a run leads to one of which the client shows the gate, and whose station is
-- the one that was opened, for so many cards
pub record IsReachedOpen {D K : Type 0} {g : Ghosts D} (alone : ℕ → Bool) (cards number : ℕ)
    (first : Whole) (client : Client D g) (opening : OpeningState K) : Type 0 where
  pub last : Whole
  pub between : List Whole
  pub run : IsRun alone cards first between last
  pub gate_shown : gates.IsShownBy number (last.gates number) client
  pub station_is : last.station ≡ station_found opening
  pub cards_is : opening.header.cards ≡ cards

-- the first state of all gates, where none was asked anything and the station was just opened
abbrev pub begun : {K : Type 0} → OpeningState K → Whole
begun opening = record {
  gates = λ number. blank;
  sent = [];
  station = station_found opening;
  answers = [];
}
