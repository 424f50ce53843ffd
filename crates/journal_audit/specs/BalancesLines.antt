-- The text of rows: comma-separated values with a heading, as of RFC 4180 (this project's choice).
use Rattle.std.specs.Prelude.{ℕ, List, ◌++◌, codes, flat_map}
use Rattle.std.specs.Fmt.{decimal, signed_decimal}
use Rattle.oyster_account.specs.declared.reply.CardState.{CardState}
use Rattle.oyster_account.specs.declared.reply.CardState.TheVariants.{Vacant, Outside, Inside}
use Rattle.journal_audit.specs.declared.balances.row.Row.{Row}
use Rattle.journal_audit.specs.Sums.{charge_in}

-- the names of the columns
abbrev pub heading : List ℕ
heading = codes "card,state,balance,paid_in,charged\r\n"

-- the word for a state
abbrev pub state_word : CardState → List ℕ
state_word Vacant = codes "vacant"
state_word Outside = codes "outside"
state_word Inside = codes "inside"

-- a row's line: the card's number, its state, what it holds, what was paid in, and what was charged
abbrev pub row_line : Row → List ℕ
row_line row =
    decimal row.card
    ++ (codes "," ++ (state_word row.view.state
    ++ (codes "," ++ (signed_decimal row.view.balance
    ++ (codes "," ++ (decimal row.sums.paid_in
    ++ (codes "," ++ (signed_decimal (charge_in row.sums) ++ codes "\r\n"))))))))

-- the heading, and a line for each row
abbrev pub text_of_rows : List Row → List ℕ
text_of_rows rows = heading ++ flat_map row_line rows
