-- What is told of a journal's revisions (COMMANDS.md, "verify"; this project's choice).
use Rattle.std.specs.Prelude.{ℕ, ◌+◌, ℤ, List, [], ◌∷◌, ◌++◌, slice_get, codes, Option, Some, None}
use Rattle.std.specs.Fmt.{decimal}
use Rattle.hex.specs.Hex.{encode_lower}
use Rattle.oyster_account.specs.declared.touch.Act.{Act}
use Rattle.oyster_account.specs.declared.touch.Act.TheVariants.{Enter, Leave, TopUp, Issue, Revise}
use Rattle.oyster_account.specs.declared.touch.Touch.{Touch}
use Rattle.oyster_account.specs.declared.reply.Judged.{Judged}
use Rattle.reply_book.specs.Legal.{book}
use Rattle.reply_book.specs.Tables.{Tables}
use Rattle.journal_audit.specs.Calendar.{day_text}
use Rattle.journal_audit.specs.HistoryRow.{verdict_field}

-- the history that the touches make, where tables are named
abbrev pub history_by : Option Tables → ℕ → List Touch → Option (List Judged)
history_by None cards touches = None
history_by (Some tables) cards touches = Some (book tables cards touches)

-- the judgement of the touch at a place, where the history is known
abbrev pub judged_at : Option (List Judged) → ℕ → Option Judged
judged_at None place = None
judged_at (Some history) place = slice_get history place

-- the name of its verdict behind a space, where the judgement is known
abbrev pub verdict_text : Option Judged → List ℕ
verdict_text None = []
verdict_text (Some judged) = 32 ∷ verdict_field judged.reply.verdict

-- the beginning of a revision's line: its place, and the fare day from which its table counts
unfoldable pub revision_start : ℕ → ℤ → List ℕ
revision_start place day =
    codes "revision " ++ (decimal place ++ (codes " " ++ (day_text day ++ codes " ")))

-- the line of a revision: behind its beginning the table's digest, and its verdict where that is
-- known
unfoldable pub revision_line : ℕ → ℤ → List ℕ → Option Judged → List ℕ
revision_line place day digest judged =
    revision_start place day ++ (encode_lower digest ++ (verdict_text judged ++ codes "\n"))

-- of a revision its line is told, and of another touch nothing
unfoldable pub told_of : ℕ → Option Judged → Act → List ℕ
told_of place judged (Enter station moment) = []
told_of place judged (Leave station moment) = []
told_of place judged (TopUp pence moment) = []
told_of place judged (Issue moment) = []
told_of place judged (Revise day moment digest) = revision_line place day digest judged

-- what is told of touches, of which the first has this place in the journal
unfoldable pub revisions_from : Option (List Judged) → ℕ → List Touch → List ℕ
revisions_from known place [] = []
revisions_from known place (touch ∷ later) =
    told_of place (judged_at known place) touch.act ++ revisions_from known (place + 1) later

-- the lines of a journal's revisions
abbrev pub revisions_text : Option (List Judged) → List Touch → List ℕ
revisions_text known touches = revisions_from known 0 touches
