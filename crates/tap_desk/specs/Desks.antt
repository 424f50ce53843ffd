-- What a desk has learnt and seen (ENQUIRIES.md; this project's choice).
use Rattle.std.specs.Prelude.{ℕ, List, [], ◌∷◌, Option}
use mathlib.Core.List.{IsPrefix}
use Rattle.logbook.specs.Pages.{Book}
use Rattle.reply_book.specs.declared.entry.Entry.{Entry}
use Rattle.reply_book.specs.Tables.{Tables}
use Rattle.tap_desk.specs.declared.copy_version.CopyVersion.{CopyVersion}
use Rattle.tap_desk.specs.declared.desk.Points.{Points, Nothing, More'}
use Rattle.tap_desk.specs.CommitLog.{logged}
use Rattle.tap_desk.specs.CopyVersions.{list_of, IsOf}

-- what contracts see of a desk: its list, which is what its last answered enquiry saw, and the
-- lists of its log points, newest first
pub record DeskState : Type 0 where
  pub list : List Entry
  pub points : List (List Entry)

-- the lists of the log points, newest first
abbrev pub points_of : Points → List (List Entry)
points_of Nothing = []
points_of (More' shape earlier point) = logged point.value.log ∷ points_of earlier

-- the version that the reader saw extends this list, by these tables, and is of this logbook where
-- it is named
abbrev pub HasSeen : Book → Option (Tables × ℕ) → List Entry → List CopyVersion → Type 0
HasSeen book table list [] = ⊥
HasSeen book table list (p ∷ ps) = IsPrefix list (list_of p) × IsOf book table p
