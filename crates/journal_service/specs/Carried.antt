-- Which journal `migrate` has carried over, by the words of its command line (COMMANDS.md,
-- "migrate"; this project's choice).
use Rattle.std.specs.Prelude.{◌≡◌, ℕ, List, [], length}
use Rattle.command_line.specs.declared.arguments.Migrate.{Migrate}
use Rattle.oyster_account.specs.declared.touch.Touch.{Touch}
use Rattle.tap_journal.specs.Image.{Image, OldImage}
use Rattle.tap_journal.specs.Layout.{header_of}
use Rattle.tap_journal.specs.Left.{AllLeft}

-- the file of the one word held a journal of the first format, made with these cards and this
-- digest; the other's was empty, and every crash now leaves a journal of the same touches there; so
-- many there are
pub record HasCarried {D : Type 0} (honest : D → Type 0) (content : D → List ℕ)
    (outcome : D → List ℕ → Type 0) (opened_alone opened : List ℕ → D → Type 0) (migrate : Migrate)
    (digest : List ℕ) (number : ℕ) : Type 0 where
  pub source : D
  pub target : D
  pub read : opened_alone migrate.from.now source
  pub made : opened migrate.to.now target
  pub source_after : D
  pub target_after : D
  pub capacity : ℕ
  pub touches : List Touch
  pub count : number ≡ length touches
  pub empty : honest target_after → content target ≡ []
  pub old : honest source_after
      → OldImage (header_of capacity migrate.cards digest) touches (content source)
  pub new : honest target_after
      → AllLeft (outcome target_after) (Image (header_of capacity migrate.cards digest) touches)
