-- What a row says by the account of its card alone (FARES.md, "Balance"; that a row has these
-- columns is this project's choice).
use Rattle.std.specs.Prelude.{◌≡◌, pos, List, sum_by}
use Rattle.oyster_account.specs.declared.touch.Act.{Act}
use Rattle.oyster_account.specs.declared.reply.Judged.{Judged}
use Rattle.oyster_account.specs.Balance.{pence_paid, balance, state_of}
use Rattle.oyster_account.specs.Charge.{travel_charge}
use Rattle.oyster_account.specs.History.{accepted}
use Rattle.oyster_account.specs.Scheme.{Scheme}
use Rattle.oyster_account.specs.Travel.{travel}
use Rattle.reply_book.specs.Tables.{Tables, scheme_after}
use Rattle.journal_audit.specs.declared.balances.row.Row.{Row}
use Rattle.journal_audit.specs.Sums.{charge_in}

-- the row tells of these acts what they paid in, what the fare rules charge for their travel, and
-- the state and balance that they leave
pub record IsAccountOf (scheme : Scheme) (acts : List Act) (row : Row) : Type 0 where
  pub paid_in : row.sums.paid_in ≡ sum_by pence_paid acts
  pub charged : charge_in row.sums ≡ pos (travel_charge scheme (travel scheme acts))
  pub state : row.view.state ≡ state_of (travel scheme acts)
  pub holds : row.view.balance ≡ balance scheme acts

-- the row tells of the accepted acts of its own card alone, by the fares in force after the history
abbrev pub IsByAccount : Tables → List Judged → Row → Type 0
IsByAccount tables history row =
    IsAccountOf (scheme_after tables history) (accepted row.card history) row
