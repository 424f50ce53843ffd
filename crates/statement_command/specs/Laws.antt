-- Laws of a statement's lines (COMMANDS.md, "statement" and "balances").
use Rattle.std.specs.Prelude.{◌≡◌, ℕ, pos, ◌-ℤ◌, List, None}
use Rattle.oyster_account.specs.declared.reply.Judged.{Judged}
use Rattle.oyster_account.specs.History.{accepted}
use Rattle.reply_book.specs.Tables.{Tables, scheme_after}
use Rattle.reply_book.specs.View.{view_after}
use Rattle.card_statement.specs.Statement.{StatementContent, statement_of}
use Rattle.journal_audit.specs.Account.{IsByAccount}
use Rattle.journal_audit.specs.BalancesRows.{row_of}
use Rattle.journal_audit.specs.Sums.{charge_in}
use Rattle.statement_command.specs.declared.days.Days.{Days}
use Rattle.statement_command.specs.Lines.{paid_up_to, charged_up_to}

-- a statement's sums up to the last day are those of the card's row of `balances`
pub record AreSumsOfRow (tables : Tables) (cards : ℕ) (history : List Judged) (card : ℕ)
    (days : Days) (content : StatementContent) : Type 0 where
  pub paid_in : paid_up_to days content.top_ups ≡ (row_of tables cards history card).sums.paid_in
  pub charged : pos (charged_up_to days content.days)
      ≡ charge_in (row_of tables cards history card).sums
  pub balance : pos (paid_up_to days content.top_ups) -ℤ pos (charged_up_to days content.days)
      ≡ (view_after tables cards history card).balance

-- where the card's row of `balances` is by the account's rules, the statement without a last day
-- has the sums of the row
abbrev pub AreSumsOfBalances : Type 0
AreSumsOfBalances =
    (tables : Tables) (cards : ℕ) (history : List Judged) (card : ℕ) (days : Days)
    → IsByAccount tables history (row_of tables cards history card) → days.to ≡ None
    → AreSumsOfRow tables cards history card days
    (statement_of (scheme_after tables history) (accepted card history))
