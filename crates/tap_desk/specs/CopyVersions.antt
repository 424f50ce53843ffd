-- Which entries the version of a published copy is of, by which tables, and which version may
-- come after which (ENQUIRIES.md; this project's choice).
use Rattle.std.specs.Prelude.{◌≡◌, ℕ, ◌+◌, true, List, [], ◌∷◌, ◌++◌, length, Option, Some}
use Rattle.std.specs.Prelude.{slice_get}
use mathlib.Core.Option.{some}
use mathlib.Core.List.{IsPrefix}
use lib.ListN.{get_elem?}
use Rattle.logbook.specs.Pages.{Book}
use Rattle.oyster_account.specs.declared.reply.CardView.{CardView}
use Rattle.reply_book.specs.declared.entry.Entry.{Entry}
use Rattle.reply_book.specs.Tables.{Tables}
use Rattle.tap_desk.specs.declared.copy_version.CopyVersion.{CopyVersion}
use Rattle.tap_desk.specs.declared.shown.Published.{Published}
use Rattle.tap_desk.specs.CommitLog.{logged, table_of}
use Rattle.tap_desk.specs.Listed.{listed, view_by}

-- the entries of a version, oldest first
abbrev pub list_of : CopyVersion → List Entry
list_of p = logged p.before.log ++ listed p.last

-- the version q extends p: it lists no less, by the same tables, and where it is of the named
-- commit log, p is of that log too
pub record ExtendedBy (p q : CopyVersion) : Type 0 where
  pub lists : IsPrefix (list_of p) (list_of q)
  pub table : table_of q.before.log ≡ table_of p.before.log
  pub commit_log : q.named ≡ true → (p.named ≡ true) × (q.before.book ≡ p.before.book)

-- the version q extends each of these
abbrev pub ExtendsEach : CopyVersion → List CopyVersion → Type 0
ExtendsEach q [] = Unit {0}
ExtendsEach q (p ∷ ps) = ExtendedBy p q × ExtendsEach q ps

-- the published version extends each version that was seen
abbrev pub ExtendsAll : CopyVersion → List (List CopyVersion) → Type 0
ExtendsAll q views =
    (seat : ℕ) (v : List CopyVersion) → get_elem? views seat ≡ some v → ExtendsEach q v

-- there is a view for each card, and it is what is seen of that card after these entries
pub record AreViews (table : Option (Tables × ℕ)) (entries : List Entry) (views : List CardView) :
    Type 0 where
  pub count : (tables : Tables) (cards : ℕ) → table ≡ Some (tables, cards) → length views ≡ cards
  pub each :
      (place : ℕ) (view : CardView) → slice_get views place ≡ Some view
      → view ≡ view_by table entries (place + 1)

-- the views are those of the version's entries
abbrev pub IsShown : Published → Type 0
IsShown p = AreViews (table_of p.version.before.log) (list_of p.version) p.views.items

-- what is published extends all that was seen, and its views are those of its version
abbrev pub Holds : Published → List (List CopyVersion) → Type 0
Holds p views = ExtendsAll p.version views × IsShown p

-- what is then published was seen, which extends what was seen before
abbrev pub SeesNext : List CopyVersion → Published → Published → List CopyVersion → Type 0
SeesNext v x y w = ExtendsEach y.version v × (w ≡ y.version ∷ []) × IsShown y

-- a version has these tables, and where it is of the named commit log, it is of this logbook
pub record IsOf (book : Book) (table : Option (Tables × ℕ)) (p : CopyVersion) : Type 0 where
  pub table_is : table_of p.before.log ≡ table
  pub book_is : p.named ≡ true → p.before.book ≡ book
