-- What is printed of a card of the journal that some bytes are, and why some bytes are refused
-- (COMMANDS.md, "statement"; this project's choice).
use Rattle.std.specs.Prelude.{◌≡◌, ◌≢◌, ◌⊎◌, ◌≤◌, ℕ, List, [], Some, Result, Ok, Err}
use Rattle.oyster_account.specs.declared.touch.Touch.{Touch}
use Rattle.oyster_account.specs.declared.reply.CardState.TheVariants.{Vacant}
use Rattle.reply_book.specs.declared.book.Book.{Book}
use Rattle.reply_book.specs.Book.{Stands, entries_of, tables_of, cards_of}
use Rattle.reply_book.specs.Legal.{history_of, book}
use Rattle.reply_book.specs.Tables.{Tables, scheme_after}
use Rattle.reply_book.specs.View.{view_after}
use Rattle.tap_journal.specs.declared.layout.Format.{Format}
use Rattle.tap_journal.specs.Layout.{Header}
use Rattle.text_io.specs.Writing.{IsBeginning}
use Rattle.text_io.specs.declared.fault.RunFault.TheVariants as run
use Rattle.console.specs.declared.fault.TrialFault.TheVariants as trial
use Rattle.command_line.specs.declared.statement.StatementFormat.{StatementFormat}
use Rattle.journal_audit.specs.Audit.{IsJournal, IsNoJournalOf}
use Rattle.journal_audit.specs.Touches.{AreEntered}
use Rattle.journal_audit.specs.Wanted.{IsCardAbove}
use Rattle.journal_audit.specs.declared.commands.fault.CommandFault.{CommandFault}
use Rattle.journal_audit.specs.declared.commands.fault.CommandFault.TheVariants as cause
use Rattle.statement_command.specs.declared.days.Days.{Days}
use Rattle.statement_command.specs.declared.line.Line.{Line}
use Rattle.statement_command.specs.Card.{lines_of, IsPrinted}

-- the lines of the statement of a card after the touches of a journal, each with its judgement
-- after those before it
abbrev pub lines_after : Tables → ℕ → List Touch → ℕ → Days → List Line
lines_after tables cards touches card days =
    lines_of (scheme_after tables (book tables cards touches)) card days
    (book tables cards touches)

-- the book has the touches of the journal that the bytes are, each with its judgement after those
-- before it, and the journal has the card
pub record IsEntered (tables : Tables) (card : ℕ) (bytes : List ℕ) (given : Book) : Type 0 where
  pub version : Format
  pub h : Header
  pub touches : List Touch
  pub journal : IsJournal (Some tables) bytes version h touches
  pub entered : AreEntered (Some tables) touches
  pub within : card ≤ h.cards
  pub stands : Stands given
  pub history : history_of (entries_of given) ≡ book tables h.cards touches
  pub supplied : tables_of given ≡ tables
  pub count : cards_of given ≡ h.cards

-- the card was issued by these touches of a journal
abbrev pub IsIssued : Tables → ℕ → List Touch → ℕ → Type 0
IsIssued tables cards touches card =
    (view_after tables cards (book tables cards touches) card).state ≢ Vacant

-- the bytes are a journal whose touches can be entered with these tables, it has the card, the card
-- was issued, and the text is what the lines of its statement print
pub record IsStatement (tables : Tables) (card : ℕ) (days : Days) (format : StatementFormat)
    (bytes text : List ℕ) : Type 0 where
  pub version : Format
  pub h : Header
  pub touches : List Touch
  pub journal : IsJournal (Some tables) bytes version h touches
  pub entered : AreEntered (Some tables) touches
  pub within : card ≤ h.cards
  pub issued : IsIssued tables h.cards touches card
  pub printed : IsPrinted format (lines_after tables h.cards touches card days) text

-- the bytes are a journal whose touches can be entered with these tables, it has the card, and the
-- card was never issued
pub record IsUnissued (tables : Tables) (card : ℕ) (bytes : List ℕ) : Type 0 where
  pub version : Format
  pub h : Header
  pub touches : List Touch
  pub journal : IsJournal (Some tables) bytes version h touches
  pub entered : AreEntered (Some tables) touches
  pub within : card ≤ h.cards
  pub vacant : (view_after tables h.cards (book tables h.cards touches) card).state ≡ Vacant

-- why no statement is printed of these bytes: the first cause, or there was no memory
abbrev pub HasRefused : Tables → ℕ → List ℕ → CommandFault → Type 0
HasRefused tables card bytes (cause.Trial fault) = fault ≡ trial.Run run.Memory
HasRefused tables card bytes (cause.Journal fault detail) = IsNoJournalOf (Some tables) bytes fault
HasRefused tables card bytes (cause.Card named cards) =
    IsCardAbove tables (Some card) bytes named cards
HasRefused tables card bytes (cause.Unissued named) = (named ≡ card) × IsUnissued tables card bytes
HasRefused tables card bytes _ = ⊥

-- the text begins the statement
abbrev pub BeginsStatement : Tables → ℕ → Days → StatementFormat → List ℕ → List ℕ → Type 0
BeginsStatement tables card days format bytes text =
    (whole : List ℕ) × IsStatement tables card days format bytes whole × IsBeginning text whole

-- where there was no fault, the text is the statement; a failed write leaves a beginning of it, and
-- any other fault nothing
abbrev pub HasTold : Tables → ℕ → Days → StatementFormat → List ℕ → List ℕ
    → Result Unit CommandFault → Type 0
HasTold tables card days format bytes text (Ok done) =
    IsStatement tables card days format bytes text
HasTold tables card days format bytes text (Err fault) =
    ((text ≡ []) × HasRefused tables card bytes fault)
    ⊎ ((fault ≡ cause.Trial (trial.Run run.Write))
    × BeginsStatement tables card days format bytes text)
