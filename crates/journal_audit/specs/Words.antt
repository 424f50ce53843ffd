-- What a command over a journal has written where it ends, by the words of its command line
-- (COMMANDS.md; this project's choice).
use Rattle.std.specs.Prelude.{◌≡◌, ◌⊎◌, ℕ, List, Option, Some}
use Rattle.text_io.specs.Writing.{Wrote}
use Rattle.reply_book.specs.Tables.{Tables}
use Rattle.console.specs.Files.{ForFile, IsFileFault}
use Rattle.table_check.specs.Tables.{ForTables, AreRefused}
use Rattle.console.specs.declared.detail.Detail.{Detail}
use Rattle.console.specs.declared.fault.TrialFault.TheVariants.{File}
use Rattle.journal_audit.specs.declared.commands.fault.CommandFault.{CommandFault}
use Rattle.journal_audit.specs.declared.commands.fault.CommandFault.TheVariants.{Trial}

-- of the tables of these words, the bytes of the journal's file and the text that was written this
-- is said
abbrev pub HasTold : (List ℕ → List ℕ → Type 0) → List ℕ → List (List ℕ) → List ℕ
    → Option (List ℕ) → Option (List ℕ) → (Tables → List ℕ → List ℕ → Type 0) → Type 0
HasTold gave first further journal before after Says =
    ForTables gave (Some first) further (λ tables. ForFile gave journal (λ bytes.
    Wrote before after (λ text. Says tables bytes text)))

-- why a journal wasn't looked at: there are no tables, or its file isn't had
abbrev pub IsUnread : (List ℕ → List ℕ → Type 0) → List ℕ → List (List ℕ) → CommandFault → Type 0
IsUnread gave first further (Trial fault) =
    AreRefused gave (Some first) further fault ⊎ IsFileFault fault
IsUnread gave first further _ = ⊥

-- a file can't be opened
abbrev pub IsFileRefused : CommandFault → Type 0
IsFileRefused fault = (detail : Detail) × (fault ≡ Trial (File detail))
