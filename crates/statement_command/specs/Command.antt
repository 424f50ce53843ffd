-- What `statement` has printed where it ends, by the words of its command line (COMMANDS.md,
-- "statement"; this project's choice).
use Rattle.std.specs.Prelude.{◌⊎◌, ℕ, List, map, Option, Err}
use Rattle.command_line.specs.declared.statement.Statement.{Statement}
use Rattle.journal_audit.specs.Words.{HasTold, IsUnread}
use Rattle.journal_audit.specs.declared.commands.fault.CommandFault.{CommandFault}
use Rattle.statement_command.specs.Days.{days_by}
use Rattle.statement_command.specs.Journal.{IsStatement, HasTold as IsTold}

-- the statement was printed that the command line asks for
abbrev pub HasToldStatement : (List ℕ → List ℕ → Type 0) → Statement → Option (List ℕ)
    → Option (List ℕ) → Type 0
HasToldStatement gave asked before after = HasTold gave asked.table.now
    (map (λ word. word.now) asked.revisions.items) asked.journal.now before after
    (λ tables bytes text. IsStatement tables asked.card (days_by asked) asked.format bytes text)

-- why that isn't done: the tables or the file aren't had, and nothing was printed, or the statement
-- ended early, for this fault, behind what was printed
abbrev pub IsStatementUntold : (List ℕ → List ℕ → Type 0) → Statement → Option (List ℕ)
    → Option (List ℕ) → Type 0 → CommandFault → Type 0
IsStatementUntold gave asked before after same fault =
    (IsUnread gave asked.table.now (map (λ word. word.now) asked.revisions.items) fault × same)
    ⊎ HasTold gave asked.table.now (map (λ word. word.now) asked.revisions.items)
    asked.journal.now before after (λ tables bytes text.
    IsTold tables asked.card (days_by asked) asked.format bytes text (Err fault))
