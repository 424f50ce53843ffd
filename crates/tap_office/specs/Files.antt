-- Openings with the same files of fare tables (OFFICE.md, "Rounds"; this project's choice).
use Rattle.std.specs.Prelude.{◌≡◌, ℕ, ◌<◌, List, [], ◌∷◌, Some, slice_get}
use Rattle.std.specs.List.{All}
use Rattle.sha2.specs.Sha256.{sha256}
use Rattle.fare_table.specs.Table.{IsTableOf}
use Rattle.fare_table.specs.declared.fares.Fares.{Fares}
use Rattle.oyster_account.specs.declared.touch.Touch.{Touch}
use Rattle.oyster_account.specs.declared.reply.Judged.{Judged}
use Rattle.tap_journal.specs.Layout.{Header}
use Rattle.reply_book.specs.Legal.{book}
use Rattle.reply_book.specs.Tables.{Tables, listed, AreKnown}
use Rattle.tap_office.specs.Rounds.{Round, released, AreRounds, AreSameFor}

-- each table was read from the file at its place, and there are as many
abbrev pub AreReadFrom : List (List ℕ) → List Fares → Type 0
AreReadFrom [] [] = Unit {0}
AreReadFrom [] (table ∷ tables) = ⊥
AreReadFrom (file ∷ files) [] = ⊥
AreReadFrom (file ∷ files) (table ∷ tables) = IsTableOf file table × AreReadFrom files tables

-- a file of these and one of the others that have the same digest are the same
abbrev pub HaveOwnDigests : List (List ℕ) → List (List ℕ) → Type 0
HaveOwnDigests files others =
    All (λ file. All (λ other. sha256 file ≡ sha256 other → file ≡ other) others) files

-- tables of the same first file, which both have one for every revision among these touches, are
-- the same for them, whatever other files there are and in whatever order
abbrev pub DoFilesDecide : Type 0
DoFilesDecide =
    (first : List ℕ) (files others_files : List (List ℕ)) (tables others : Tables)
    (touches : List Touch)
    → AreReadFrom (first ∷ files) (listed tables)
    → AreReadFrom (first ∷ others_files) (listed others)
    → HaveOwnDigests (first ∷ files) (first ∷ others_files)
    → AreKnown tables touches → AreKnown others touches
    → AreSameFor tables others touches

-- two rounds were opened with tables of the same first file, each was given the file of every
-- revision among its touches, and no two of the files that differ have the same digest
pub record AreOfSameFiles (earlier later : Round) : Type 0 where
  pub first : List ℕ
  pub files : List (List ℕ)
  pub others : List (List ℕ)
  pub read : AreReadFrom (first ∷ files) (listed earlier.tables)
  pub others_read : AreReadFrom (first ∷ others) (listed later.tables)
  pub own : HaveOwnDigests (first ∷ files) (first ∷ others)
  pub known : AreKnown earlier.tables (released earlier)
  pub others_known : AreKnown later.tables later.found

-- of two such rounds the later one has each touch that was released in the earlier one at its
-- place, with the reply that it had there
abbrev pub DoSameFilesKeepReplies : Type 0
DoSameFilesKeepReplies =
    (h : Header) (rounds : List Round) → AreRounds h rounds → (i j : ℕ) (earlier later : Round)
    → i < j → slice_get rounds i ≡ Some earlier → slice_get rounds j ≡ Some later
    → AreOfSameFiles earlier later → (place : ℕ) (judged : Judged)
    → slice_get (book earlier.tables h.cards (released earlier)) place ≡ Some judged
    → slice_get (book later.tables h.cards later.found) place ≡ Some judged
