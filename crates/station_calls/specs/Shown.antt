-- What a keeper shows of a station and its gates, and what a disk may hold of them (OFFICE.md,
-- "What the lock keeps"; this project's choice).
use Rattle.std.specs.Prelude.{◌≡◌, ℕ, List, ◌++◌, not, Contains}
use Rattle.oyster_account.specs.declared.touch.Touch.{Touch}
use Rattle.tap_journal.specs.Layout.{Header}
use Rattle.tap_journal.specs.Image.{Image}
use Rattle.tap_journal.specs.Left.{AllLeft}
use Rattle.reply_book.specs.Legal.{touches_of}
use Rattle.tap_office.specs.Name.{Opened}
use Rattle.tap_office.specs.Given.{IsGiven}
use Rattle.tap_office.specs.Keeper.{KeeperState}
use Rattle.gate_law.specs.Whole.{Gate, Whole}
use Rattle.gate_law.specs.WholeSteps.{IsLeftBehind}

-- the content is a journal of what a crash may leave: the history's touches, or one more, that was
-- sent
pub record IsOnDisk (h : Header) (whole : Whole) (content : List ℕ) : Type 0 where
  pub left : List Touch
  pub either : IsLeftBehind whole.sent (touches_of whole.station.history) left
  pub image : Image h left content

-- the station is the office of this opening: it has the opening's tables and capacity, the keeper's
-- history, and goes on where the keeper isn't halted. Whatever a crash may leave of the keeper's
-- disk is a journal of the history, or of one touch more, that was sent
pub record IsShownBy {D : Type 0} (honest : D → Type 0) (outcome : D → List ℕ → Type 0)
    (opened : Opened) (keeper : KeeperState D) (whole : Whole) : Type 0 where
  pub given : IsGiven opened whole.station.tables
  pub capacity : whole.station.capacity ≡ opened.header.capacity
  pub history : whole.station.history ≡ keeper.history
  pub going : whole.station.going ≡ not keeper.halted
  pub left : honest keeper.disk → AllLeft (outcome keeper.disk) (IsOnDisk opened.header whole)

-- the whole with these gates, and with these touches that were sent more
abbrev pub with_gates : Whole → (ℕ → Gate) → List Touch → Whole
with_gates whole gates more = record whole { gates = gates; sent = whole.sent ++ more }

-- the content is a journal that has this touch
pub record HasTouch (h : Header) (touch : Touch) (content : List ℕ) : Type 0 where
  pub touches : List Touch
  pub image : Image h touches content
  pub there : Contains touches touch
