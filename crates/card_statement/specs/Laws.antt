-- Laws of a card's statement (FARES.md, "Statement"): its rows sum to what it is charged,
-- and each day's charge follows from its row. Lists are newest first.
use Rattle.std.specs.Prelude.{◌≡◌, ℕ, ℤ, ◌+◌, List, sum_by, filter, not, Option, Some, None}
use Rattle.fare_table.specs.declared.rows.Cap.{Cap}
use Rattle.oyster_account.specs.declared.journey.Journey.{Journey}
use Rattle.oyster_account.specs.declared.touch.Act.{Act}
use Rattle.card_statement.specs.declared.statement.JourneyRow.{JourneyRow}
use Rattle.card_statement.specs.declared.statement.Incomplete.{Incomplete}
use Rattle.oyster_account.specs.Scheme.{Scheme}
use Rattle.oyster_account.specs.Travel.{Tap}
use Rattle.oyster_account.specs.Journey.{pence_of}
use Rattle.oyster_account.specs.Charge.{day_charge, travel_charge}
use Rattle.oyster_account.specs.Balance.{balance}
use Rattle.card_statement.specs.NamedCap.{applied_cap, charged_by}
use Rattle.card_statement.specs.Day.{day_row, day_rows}
use Rattle.card_statement.specs.Day.{pence_charged}
use Rattle.card_statement.specs.Statement.{statement_of}

-- the days' rows, charges and incomplete charges together, sum to what the travel is charged
abbrev pub DoDaysSum : Type 0
DoDaysSum =
    (scheme : Scheme) (taps : List Tap)
    → sum_by pence_charged (day_rows scheme taps) ≡ travel_charge scheme taps

-- the statement's balance, what its rows pay in less what they charge, is the card's
abbrev pub IsStatementBalance : Type 0
IsStatementBalance =
    (scheme : Scheme) (acts : List Act)
    → (statement_of scheme acts).balance ≡ balance scheme acts

-- the cap that is named attains the day's charge, and the fares do where none is
abbrev pub DoesCapAttain : Type 0
DoesCapAttain =
    (caps : List Cap) (made : List Journey)
    → charged_by made (applied_cap caps made) ≡ day_charge caps made

-- the fare of a journey's row
abbrev pub pence_in_journey : JourneyRow → ℕ
pence_in_journey row = pence_of row.journey

-- the fares of the rows that the named cap doesn't cover
abbrev pub pence_uncovered : List JourneyRow → ℕ
pence_uncovered rows = sum_by pence_in_journey (filter (λ row. not row.covered) rows)

-- the price of the cap that may be named
abbrev pub price_of : Option Cap → ℕ
price_of None = 0
price_of (Some cap) = cap.price

-- each day's charge is the price of its named cap, if any, and the fares of its uncovered journeys
abbrev pub IsDayExplained : Type 0
IsDayExplained =
    (caps : ℤ → List Cap) (made : List Journey) (rows : List Incomplete) (day : ℤ)
    → (day_row caps made rows day).charge
    ≡ price_of (day_row caps made rows day).cap
    + pence_uncovered (day_row caps made rows day).journeys
